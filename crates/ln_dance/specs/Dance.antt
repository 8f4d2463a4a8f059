-- What one side of the dance keeps, and what each call makes of it (BOLT 2, "Normal Operation").
use Rattle.std.specs.Prelude.{◌≡◌, ℕ, ◌+◌, ◌-◌, ◌^◌, ◌≤◌, List, [], Bool, true, not, ◌==◌, ◌&&◌, ◌||◌, nat_lt}
use Rattle.std.specs.Prelude.{Option, Some, None}
use Rattle.std.specs.Prelude.{Result, Ok, Err, if◌then◌else◌}
use Rattle.ln_bytes.specs.Answers.{Refuses}
use Rattle.ln_msgs.specs.declared.messages.commitments.CommitmentSigned.{CommitmentSigned}
use Rattle.ln_msgs.specs.declared.messages.commitments.RevokeAndAck.{RevokeAndAck}
use Rattle.ln_refusals.specs.declared.refusal.Refusal.{Refusal}
use Rattle.ln_refusals.specs.declared.refusal.Refusal.TheVariants as refusal
use Rattle.ln_keys.specs.declared.view.View.{View}
use Rattle.ln_keys.specs.Signer.{Signer}
use Rattle.ln_log.specs.declared.log.Pair.{Pair}
use Rattle.ln_log.specs.declared.log.Pair.TheVariants as pair
use Rattle.ln_log.specs.Limits.{first_fault}
use Rattle.ln_log.specs.Log as log
use Rattle.ln_log.specs.Log.{Log, covered, counts_of, view_for, same_counts}
use Rattle.ln_dance.specs.declared.dance.Later.{Later}
use Rattle.ln_dance.specs.declared.dance.Later.TheVariants.{Signature, Revocation}
use Rattle.ln_dance.specs.declared.dance.Numbers.{Numbers}
use Rattle.ln_dance.specs.declared.dance.Peer.{Peer}

pub record Dancer : Type 0 where
  pub channel : List ℕ  -- the channel's id
  pub log : Log
  pub numbers : Numbers
  pub peer : Peer
  pub later : Later  -- which of its last signature and its last revocation it sent later

-- what is kept stands for these lists, numbers and points: today it has them whole
abbrev pub StandsFor : Dancer → Dancer → Type 0
StandsFor kept d = kept ≡ d

-- what a commitment of this pair of lists is worth
abbrev pub view_at : Pair → Dancer → View
view_at p d = view_for d.log.opening d.log.role (covered d.log (counts_of p d.log))

-- a signature of this side is unrevoked
abbrev pub owes : Dancer → Bool
owes d = not (d.numbers.signed == d.numbers.revoked)

-- the last number that a commitment may have (BOLT 3, "Per-commitment Secret Requirements")
abbrev pub last_number : ℕ
last_number = 2 ^ 48 - 1

abbrev pub IsNumber : ℕ → Type 0
IsNumber n = n ≤ last_number

abbrev pub is_last : ℕ → Bool
is_last n = n == last_number

-- ---- signing

abbrev pub sign_fault : Dancer → Option Refusal
sign_fault d =
    if owes d then Some refusal.SignatureOutstanding
    else first_fault (log.sign_fault d.log) (if is_last d.numbers.signed then Some refusal.NumbersSpent else None)

abbrev pub after_sign : Dancer → Dancer
after_sign d = record d {
  log = log.after_sign d.log;
  numbers = record { commitment = d.numbers.commitment; signed = d.numbers.signed + 1; revoked = d.numbers.revoked };
  later = Signature;
}

-- the signature is over the peer's next commitment, at its point
abbrev pub signed_message : Signer → Dancer → CommitmentSigned
signed_message keys d = record {
  channel_id = d.channel;
  signature = keys.signature (d.numbers.signed + 1) d.peer.next_point (view_at pair.ToSign d);
  htlc_signatures = keys.htlc_signatures (d.numbers.signed + 1) d.peer.next_point (view_at pair.ToSign d);
  records = [];
}

-- ---- accepting

-- the peer's signature is checked over the own next commitment, at its own point
abbrev pub is_right : Signer → CommitmentSigned → Dancer → Bool
is_right keys m d =
    let next = d.numbers.commitment + 1 in
    keys.accepts next (keys.point_of next) (view_at pair.ToAccept d) m.signature m.htlc_signatures

abbrev pub accept_fault : Signer → CommitmentSigned → Dancer → Option Refusal
accept_fault keys m d =
    if is_last d.numbers.commitment then Some refusal.OutOfPlace
    else (if is_right keys m d then None else Some refusal.SignatureWrong)

abbrev pub after_accept : Dancer → Dancer
after_accept d = record d {
  log = log.after_accept d.log;
  numbers = record { commitment = d.numbers.commitment + 1; signed = d.numbers.signed; revoked = d.numbers.revoked };
  later = Revocation;
}

-- it is answered by the secret of the commitment before, and the point of the one after
abbrev pub revoked_message : Signer → Dancer → RevokeAndAck
revoked_message keys d = record {
  channel_id = d.channel;
  secret = keys.secret_of d.numbers.commitment;
  next_point = keys.point_of (d.numbers.commitment + 2);
  records = [];
}

-- ---- learning

-- the secret must fit the peer's point of the commitment that is revoked
abbrev pub learn_fault : Signer → RevokeAndAck → Dancer → Option Refusal
learn_fault keys m d =
    if owes d then (if keys.fits d.numbers.revoked m.secret d.peer.point then None else Some refusal.SecretWrong)
    else Some refusal.NothingToRevoke

abbrev pub after_learn : RevokeAndAck → Dancer → Dancer
after_learn m d = record d {
  log = log.after_learn d.log;
  numbers = record { commitment = d.numbers.commitment; signed = d.numbers.signed; revoked = d.numbers.revoked + 1 };
  peer = record { point = d.peer.next_point; next_point = m.next_point; secret = Some m.secret };
}

-- ---- the rest

abbrev pub with_log : Log → Dancer → Dancer
with_log l d = record d { log = l }

-- BOLT 2, "The `channel_ready` Message": the peer's point of commitment 1
abbrev pub with_next_point : List ℕ → Dancer → Dancer
with_next_point p d = record d { peer = record { point = d.peer.point; next_point = p; secret = d.peer.secret } }

-- ---- answers

-- refused exactly by the fault that there is, but for want of memory, which may stand in place of any
abbrev pub AnswersWithin : {A : Type 0} → Option Refusal → Result A Refusal → Type 0
AnswersWithin fault answer = Refuses (λ e other. e ≡ refusal.Memory) fault answer

-- where nothing takes memory
abbrev pub answer_of : Option Refusal → Result (Unit {0}) Refusal
answer_of None = Ok tt
answer_of (Some r) = Err r

-- ---- what is kept

-- each number is below 2^48, and at most one signature is unrevoked
abbrev pub are_in_step : Numbers → Bool
are_in_step n = nat_lt n.commitment (2 ^ 48) && nat_lt n.signed (2 ^ 48) && nat_lt n.revoked (2 ^ 48)
    && (n.signed == n.revoked || n.signed == n.revoked + 1)

-- the same of numbers, and where no signature is unrevoked, the peer's acknowledged
-- commitment covers what the last signature does
pub record AreInStep (n : Numbers) (l : Log) : Type 0 where
  pub commitment : IsNumber n.commitment
  pub signed : IsNumber n.signed
  pub revoked : n.revoked ≤ n.signed
  pub one_unrevoked : n.signed ≤ n.revoked + 1
  pub acknowledged : n.signed ≡ n.revoked → same_counts l.acknowledged l.signed ≡ true
