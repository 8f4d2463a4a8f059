-- A move of one end, told from that end.
use Rattle.std.proofs.Common.{◌≡◌, ℕ, [], ◌∷◌, ◌∙◌, ap, Result, Ok, Err, OnOk}
use Rattle.ln_keys.specs.declared.role.Role.{Role}
use Rattle.ln_keys.specs.declared.role.Role.TheVariants.{Funder, Fundee}
use Rattle.ln_keys.specs.Signer.{Signer}
use Rattle.ln_world_channels.specs.declared.step.Act.{Act}
use Rattle.ln_world_channels.specs.declared.step.End.{End}
use Rattle.ln_world_channels.specs.declared.step.Node.{Node}
use Rattle.ln_world_channels.specs.Settings.{channel_id_of}
use Rattle.ln_world_channels.specs.Both.{Both, SimEnd, By, acts, act_lines, swapped, moves}
use Rattle.ln_world_channels.specs.WorldChannel.{WorldChannel, moved, place_of, end_of}

pub on_ok : {A E : Type 0} {P Q : Type 0} (r : Result A E) → (P → Q) → OnOk r P → OnOk r Q
on_ok (Ok a) f p = f p
on_ok (Err e) f p = tt

module _ {K : Type 0} (signer : K → Signer) where
  abbrev between : ℕ → Node → Node → Both K → WorldChannel K
  between n a b p = record { number = n; funder = a; fundee = b; both = p }

  -- the act is of an end with the channel's number
  pub as_funder : (n m : ℕ) (a b : Node) (what : Act) (p : Both K) (x y : SimEnd K) → m ≡ n
      → record { x = x; y = y } ≡ acts signer (channel_id_of m) what p
      → between n a b (record { x = x; y = y }) ≡ moved signer (λ c. By Funder what ∷ []) (between n a b p)
  unfolding moves
  as_funder n m a b what p x y same e =
      ap (between n a b) (e ∙ ap (λ k. acts signer (channel_id_of k) what p) same)

  pub as_fundee : (n m : ℕ) (a b : Node) (what : Act) (p : Both K) (y x : SimEnd K) → m ≡ n
      → record { x = y; y = x } ≡ acts signer (channel_id_of m) what (swapped p)
      → between n a b (record { x = x; y = y }) ≡ moved signer (λ c. By Fundee what ∷ []) (between n a b p)
  unfolding moves
  as_fundee n m a b what p y x same e =
      ap (λ (q : Both _). between n a b (swapped q))
      (e ∙ ap (λ k. acts signer (channel_id_of k) what (swapped p)) same)

  pub in_channel : (side : Role) (c : WorldChannel K) (e : End) → e ≡ end_of side c → e.channel ≡ c.number
  in_channel Funder c e same = ap (λ (d : End). d.channel) same
  in_channel Fundee c e same = ap (λ (d : End). d.channel) same

  pub acts_told : (side : Role) (what : Act) (c : WorldChannel K) (x : SimEnd K) (e : End) → x ≡ place_of side c.both
      → e ≡ end_of side c
      → act_lines signer e (channel_id_of e.channel) what x
      ≡ act_lines signer (end_of side c) (channel_id_of c.number) what (place_of side c.both)
  acts_told side what c x e there same =
      ap (act_lines signer e (channel_id_of e.channel) what) there
      ∙ ap (λ n. act_lines signer e (channel_id_of n) what (place_of side c.both)) (in_channel side c e same)
      ∙ ap (λ (d : End). act_lines signer d (channel_id_of c.number) what (place_of side c.both)) same
