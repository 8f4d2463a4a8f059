-- Items of a dispatcher one after the other.
use Rattle.std.proofs.Common.{◌≡◌, ◌++◌, ◌∷◌, [], ℕ, List, Option, refl, sym, ap, ◌∙◌, subst}
use Rattle.std.proofs.Common.{append-nil}
use Rattle.std.proofs.lemmas.List.{append_assoc}
use Rattle.ln_hooks.specs.declared.event.ChannelEvent.{ChannelEvent}
use Rattle.ln_hooks.specs.declared.verdict.Verdict.{Verdict}
use Rattle.ln_book.specs.declared.switch.saying.Saying.{Saying}
use Rattle.ln_node_loops.specs.declared.task.Task.{Task}
use Rattle.ln_node_loops.specs.declared.task.Task.TheVariants as task
use Rattle.ln_node_loops.specs.Served.{Serves, Served, verdict_word}

module _ {H T : Type 0} (registers : T → H → T → Type 0) (says : T → ChannelEvent → Verdict → T → Type 0) where
  serves-append : (t : T) (xs : List (Task H)) (mid : T) (ys : List (Task H)) (t' : T) (us vs : List Saying)
      → Serves registers says t xs mid us → Serves registers says mid ys t' vs
      → Serves registers says t (xs ++ ys) t' (us ++ vs)
  serves-append t [] mid ys t' us vs same on =
      subst (λ w. Serves registers says t ys t' (w ++ vs)) (sym same.1)
      (subst (λ m. Serves registers says m ys t' vs) same.0 on)
  serves-append t (task.Register h ∷ xs) mid ys t' us vs first on =
      (first.0, first.1, serves-append first.0 xs mid ys t' us vs first.2 on)
  serves-append t (task.Event c n e ∷ xs) mid ys t' us vs first on = (
    first.0,
    first.1,
    first.2 ++ vs,
    first.3,
    ap (λ w. w ++ vs) first.4 ∙ append_assoc (verdict_word c n e first.0) first.2 vs,
    serves-append first.1 xs mid ys t' first.2 vs first.5 on,
  )
  serves-append t (task.Stop ∷ xs) mid ys t' us vs first on = elim first [ ]

  -- so far
  pub record SoFar (t : T) (taken taken' : List (Task H)) (t' : T) (said said' : List Saying) : Type 0 where
    pub items : List (Task H)
    pub words : List Saying
    pub serves : Serves registers says t items t' words
    pub took : taken' ≡ taken ++ items
    pub spoke : said' ≡ said ++ words

  pub begins : (t : T) (taken : List (Task H)) (said : List Saying) → SoFar t taken taken t said said
  begins t taken said = record {
    items = [];
    words = [];
    serves = (refl, refl);
    took = sym (append-nil taken);
    spoke = sym (append-nil said);
  }

  one-more : (t : T) (taken taken' taken'' : List (Task H)) (mid t' : T) (said said' said'' : List Saying)
      (task : Task H) (words : List Saying) (so : SoFar t taken taken' mid said said')
      → Serves registers says mid (task ∷ []) t' words → taken'' ≡ taken' ++ task ∷ [] → said'' ≡ said' ++ words
      → SoFar t taken taken'' t' said said''
  one-more t taken taken' taken'' mid t' said said' said'' task words so serves took spoke = record {
    items = so.items ++ task ∷ [];
    words = so.words ++ words;
    serves = serves-append t so.items mid (task ∷ []) t' so.words words so.serves serves;
    took = took ∙ ap (λ l. l ++ task ∷ []) so.took ∙ append_assoc taken so.items (task ∷ []);
    spoke = spoke ∙ ap (λ l. l ++ words) so.spoke ∙ append_assoc said so.words words;
  }

  pub called : (t : T) (taken taken' taken'' : List (Task H)) (mid t' : T) (said said' said'' : List Saying)
      (c : Option (List ℕ)) (n : ℕ) (e : ChannelEvent) (verdict : Verdict)
      → SoFar t taken taken' mid said said' → says mid e verdict t' → taken'' ≡ taken' ++ task.Event c n e ∷ []
      → said'' ≡ said' ++ verdict_word c n e verdict → SoFar t taken taken'' t' said said''
  called t taken taken' taken'' mid t' said said' said'' c n e verdict so spoken took spoke =
      one-more t taken taken' taken'' mid t' said said' said'' (task.Event c n e) (verdict_word c n e verdict) so
      (verdict, t', [], spoken, sym (append-nil (verdict_word c n e verdict)), (refl, refl)) took spoke

  pub one-hook-more : (t : T) (taken taken' taken'' : List (Task H)) (mid t' : T) (said said' : List Saying) (h : H)
      → SoFar t taken taken' mid said said' → registers mid h t' → taken'' ≡ taken' ++ task.Register h ∷ []
      → SoFar t taken taken'' t' said said'
  one-hook-more t taken taken' taken'' mid t' said said' h so now took =
      one-more t taken taken' taken'' mid t' said said' said' (task.Register h) [] so (t', now, (refl, refl)) took
      (sym (append-nil said'))

  pub stops : (t : T) (taken taken' taken'' : List (Task H)) (t' : T) (said said' : List Saying)
      → SoFar t taken taken' t' said said' → taken'' ≡ taken' ++ task.Stop ∷ []
      → Served registers says t taken taken'' t' said said'
  stops t taken taken' taken'' t' said said' so took = record {
    items = so.items;
    words = so.words;
    serves = so.serves;
    took = took ∙ ap (λ l. l ++ task.Stop ∷ []) so.took;
    says_verdicts = so.spoke;
  }
