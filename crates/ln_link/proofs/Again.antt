-- What readable items tell, and what is read again of an end's record.
use Rattle.std.proofs.Common.{◌≡◌, ◌∙◌, ◌⊎◌, ◌<◌, ◌≤◌, ◌^◌, ℕ, refl, sym, ap, subst, arith, inl, inr, true, Bool}
use Rattle.std.proofs.Common.{◌==◌, ◌+◌, ◌||◌, not, is_some}
use Rattle.std.proofs.lemmas.Bool.{and_parts, or_cases, eq-eqb, eqb-true, leb-true, ltb-true}
use Rattle.std.proofs.Common.{◌%◌, ◌++◌, List, [], drop, append_assoc, mod-eq_of_lt}
use Rattle.std.specs.Coded.{le_prop}
use Rattle.byteorder.specs.Numbers.{big_number-reads_back}
use Rattle.ln_bytes.specs.Endian.{big_bytes, big_number}
use Rattle.ln_bytes.specs.ShortId.{short_id_bytes}
use Rattle.ln_bytes.specs.declared.short_id.ShortId.{ShortId}
use Rattle.ln_keys.specs.declared.role.Role.{Role}
use Rattle.ln_log.specs.declared.opening.Opening.{Opening}
use Rattle.ln_dance.specs.declared.dance.Numbers.{Numbers}
use Rattle.ln_dance.specs.Dance.{AreInStep}
use Rattle.ln_store.specs.declared.record.Items.{Items}
use Rattle.ln_store.specs.declared.record.Updates.{Updates}
use Rattle.ln_store.specs.Items as it
use Rattle.ln_store.specs.Readable.{is_readable, is_sound, is_open_payload, is_accept_payload}
use Rattle.ln_dance.specs.Dance.{are_in_step}
use Rattle.ln_store.specs.Readable.{are_settled, cover_the_same}
use Rattle.ln_dance.specs.Dance.{Dancer}
use Rattle.ln_close.specs.declared.closing.Closing.{Closing}
use Rattle.ln_close.specs.Closing.{AreOrdered}
use Rattle.ln_channel.specs.declared.opening.Terms.{Terms}
use Rattle.ln_channel.specs.declared.channel.Readiness.{Readiness}
use Rattle.ln_channel.specs.Ledger.{Ledger}
use Rattle.ln_channel.specs.Opening.{opening_of}
use Rattle.ln_channel.specs.Parts.{end_with}
use Rattle.ln_link.specs.Loading.{log_of, log_in, short_id_of, dance_of, closing_of, terms_of, readiness_of, ledger_of}
use Rattle.ln_link.specs.Loading.{end_of, TellsLog, IsLoadable}

-- what is used of readable items
pub record Parts (i : Items) : Type 0 where
  pub open_payload : is_open_payload i.agreement.open_payload ≡ true
  pub accept_payload : is_accept_payload i.agreement.accept_payload ≡ true
  pub in_step : are_in_step i.commitments.numbers ≡ true
  pub settled : are_settled i.commitments.numbers i.updates.pairs ≡ true
  pub decided : i.progress.events.decided ≤ 2 ^ 63 + 1

pub parts : (i : Items) → is_readable i ≡ true → Parts i
parts i h =
    let a = (and_parts (it.items.fits i) (is_sound i) h).1 in
    let b = (and_parts _ _ (and_parts _ _ a).0).0 in
    let c = and_parts _ _ b in
    let d = and_parts _ _ c.0 in
    let e = and_parts _ _ d.0 in
    let f = and_parts _ _ e.0 in
    record {
      open_payload = f.0;
      accept_payload = f.1;
      in_step = e.1;
      settled = d.1;
      decided = leb-true i.progress.events.decided (2 ^ 63 + 1) c.1;
    }

settled_by : (a b : ℕ) (c : Bool) → (not (a == b) || c) ≡ true → a ≡ b → c ≡ true
settled_by a b c h e = sym (ap (λ (x : Bool). not x || c) (eq-eqb a b e)) ∙ h

at_most_one : (s r : ℕ) → (((s == r) ≡ true) ⊎ ((s == r + 1) ≡ true)) → (r ≤ s) × (s ≤ r + 1)
at_most_one s r (inl e) = let same : s ≡ r = eqb-true s r e in (omega (arith, same), omega (arith, same))
at_most_one s r (inr e) = let one : s ≡ r + 1 = eqb-true s (r + 1) e in (omega (arith, one), omega (arith, one))

-- numbers that are in step as the record of a channel tells them are so beside its log
pub stepping : (n : Numbers) (o : Opening) (x : Role) (u : Updates) → are_in_step n ≡ true
    → are_settled n u.pairs ≡ true → AreInStep n (log_of o x u)
stepping n o x u h s =
    let a = and_parts _ _ h in
    let b = and_parts _ _ a.0 in
    let c = and_parts _ _ b.0 in
    let commitment : n.commitment < 2 ^ 48 = ltb-true n.commitment (2 ^ 48) c.0 in
    let signed : n.signed < 2 ^ 48 = ltb-true n.signed (2 ^ 48) c.1 in
    let near = at_most_one n.signed n.revoked (or_cases (n.signed == n.revoked) (n.signed == n.revoked + 1) a.1) in
    record {
      commitment = omega (arith, commitment);
      signed = omega (arith, signed);
      revoked = near.0;
      one_unrevoked = near.1;
      acknowledged = settled_by n.signed n.revoked (cover_the_same u.pairs.acknowledged u.pairs.signed) s;
    }

-- ---- short channel ids

abbrev as_id : (b t o : ℕ) → b < 2 ^ 24 → t < 2 ^ 24 → ShortId
as_id b t o p q = record { block = b; tx = t; output = o; block_fits = p; tx_fits = q }

-- ids of the same numbers are the same: that numbers fit is shown in one way
same_id : (b c t u o q : ℕ) (bf : b < 2 ^ 24) (tf : t < 2 ^ 24) (cf : c < 2 ^ 24) (uf : u < 2 ^ 24) → b ≡ c → t ≡ u
    → o ≡ q → as_id b t o bf tf ≡ as_id c u q cf uf
same_id b c t u o q bf tf cf uf x y z =
    subst (λ (n : ℕ). (r : n < 2 ^ 24) → as_id b t o bf tf ≡ as_id n u q r uf) x
    (λ r. subst (λ (n : ℕ). (s : n < 2 ^ 24) → as_id b t o bf tf ≡ as_id b n q r s) y
    (λ s. ap (λ (f : b < 2 ^ 24). as_id b t o f tf) (le_prop bf r)
    ∙ ap (λ (f : t < 2 ^ 24). as_id b t o r f) (le_prop tf s)
    ∙ ap (λ (n : ℕ). as_id b t n r s) z) uf) cf

-- an id is read again from its bytes
pub id_again : (b t o : ℕ) (bf : b < 2 ^ 24) (tf : t < 2 ^ 24) → o < 2 ^ 16
    → short_id_of (short_id_bytes b t o) ≡ as_id b t o bf tf
unfolding short_id_of
id_again b t o bf tf of =
    let bs : List ℕ = short_id_bytes b t o in
    let one : big_number 3 bs ≡ b =
    ap (big_number 3) (append_assoc (big_bytes 3 b) (big_bytes 3 t) (big_bytes 2 o))
    ∙ big_number-reads_back 3 b (big_bytes 3 t ++ big_bytes 2 o) bf in
    let behind : drop 3 bs ≡ big_bytes 3 t ++ big_bytes 2 o = refl in
    let two : big_number 3 (drop 3 bs) ≡ t = ap (big_number 3) behind ∙ big_number-reads_back 3 t (big_bytes 2 o) tf in
    let last : drop 6 bs ≡ big_bytes 2 o ++ [] = refl in
    let three : big_number 2 (drop 6 bs) ≡ o = ap (big_number 2) last ∙ big_number-reads_back 2 o [] of in
    same_id (big_number 3 bs % 2 ^ 24) b (big_number 3 (drop 3 bs) % 2 ^ 24) t (big_number 2 (drop 6 bs)) o _ _ bf tf
    (ap (λ (n : ℕ). n % 2 ^ 24) one ∙ mod-eq_of_lt bf) (ap (λ (n : ℕ). n % 2 ^ 24) two ∙ mod-eq_of_lt tf) three

-- ---- the end that items tell

-- of the parts that they tell
pub told_end : (i : Items) (d : Dancer) (c : Closing) (t : Terms) (m : Readiness) (g : Ledger)
    → d ≡ dance_of i.header i.commitments (log_in i) → c ≡ closing_of i.header i.agreement i.progress.fees
    → t ≡ terms_of i.agreement → m ≡ readiness_of i.header.flags i.agreement.place → g ≡ ledger_of i.progress
    → end_with d c t m g ≡ end_of i
unfolding end_of
told_end i d c t m g dance closing terms readiness ledger =
    let told_dance = dance_of i.header i.commitments (log_in i) in
    let told_closing = closing_of i.header i.agreement i.progress.fees in
    let told_marks = readiness_of i.header.flags i.agreement.place in
    ap (λ (x : Dancer). end_with x c t m g) dance
    ∙ ap (λ (x : Closing). end_with told_dance x t m g) closing
    ∙ ap (λ (x : Terms). end_with told_dance told_closing x m g) terms
    ∙ ap (λ (x : Readiness). end_with told_dance told_closing (terms_of i.agreement) x g) readiness
    ∙ ap (λ (x : Ledger). end_with told_dance told_closing (terms_of i.agreement) told_marks x) ledger

-- their updates tell a log in the channel that they tell
pub loadable : (i : Items) (o : Opening) → o ≡ opening_of (terms_of i.agreement)
    → TellsLog o i.header.role i.updates → AreOrdered i.agreement.fees
    → is_some i.agreement.peer_script ≡ i.header.flags.shut_received → IsLoadable i
loadable i o is told fees scripts = record {
  updates = subst (λ (x : Opening). TellsLog x i.header.role i.updates) is told;
  fees = fees;
  scripts = scripts;
}
