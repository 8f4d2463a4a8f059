-- What a link is told to do, as bytes.
use Rattle.std.specs.Prelude.{ℕ, ◌%◌, ◌^◌, ◌<◌, List, ◌==◌, Option, Some, None, if◌then◌else◌}
use Rattle.std.proofs.Common.{mod-lt, lit≤}
use Rattle.std.proofs.Math.Nat.{one-le-pow}
use Rattle.ln_bytes.specs.declared.short_id.ShortId.{ShortId}
use Rattle.ln_log.specs.declared.mark.Mark.{Mark}
use Rattle.ln_log.specs.declared.mark.Mark.TheVariants as mark
use Rattle.ln_channel.specs.declared.command.Command.{Command}
use Rattle.ln_channel.specs.declared.command.Command.TheVariants as command
use Rattle.ln_store.specs.Format.{Format, number, fixed, sized, ◌&◌, optional, made, made_at}
use Rattle.ln_store.specs.Items.{mark_tag, mark_form}
use Rattle.ln_wire.specs.Forms.{Told, told_by, one_of, empty}

pub cut_below : (n : ℕ) → n % 2 ^ 24 < 2 ^ 24
cut_below n = mod-lt n (one-le-pow 24 2 (lit≤ tt))

-- the short channel id of these numbers, of which the first two have 24 bits
unfoldable pub id_of : ℕ → ℕ → ℕ → ShortId
id_of block tx output = record {
  block = block % 2 ^ 24;
  tx = tx % 2 ^ 24;
  output = output;
  block_fits = cut_below block;
  tx_fits = cut_below tx;
}

-- three bytes of block, three of transaction, two of output (BOLT 7, "Definition of short_channel_id")
unfoldable pub short_id : Format ShortId
short_id = made (λ p. id_of p.0 p.1.0 p.1.1) (λ i. (i.block, (i.tx, i.output))) (number 3 & number 3 & number 2)

abbrev pub mark_told : Mark → Told
mark_told m = if mark_tag m == 0 then told_by 0 empty tt else told_by (mark_tag m) (mark_form (mark_tag m)) m

abbrev pub mark_at : ℕ → List ℕ → Option (Mark × List ℕ)
mark_at n bytes = if n == 0 then Some (mark.None, bytes) else (mark_form n).at bytes

-- 0 for none, and each other one as in a record
unfoldable pub any_mark : Format Mark
any_mark = one_of mark_told mark_at

-- amount_msat, payment_hash, cltv_expiry, the onion, and the incoming channel and HTLC of one that is forwarded
abbrev pub add_form : Format (ℕ × (List ℕ × (ℕ × (List ℕ × Option (List ℕ × ℕ)))))
add_form = number 8 & fixed 32 & number 4 & fixed 1366 & optional (fixed 32 & number 8)

abbrev pub command_told : Command → Told
command_told (command.Confirm id) = told_by 0 short_id id
command_told (command.Add amount hash expiry onion origin) =
    told_by 1 add_form (amount, (hash, (expiry, (onion, origin))))
command_told (command.Fulfil id preimage) = told_by 2 (number 8 & fixed 32) (id, preimage)
command_told (command.Fail id reason) = told_by 3 (number 8 & sized 2) (id, reason)
command_told (command.Malformed id sha code) = told_by 4 (number 8 & fixed 32 & number 2) (id, (sha, code))
command_told (command.Fee feerate) = told_by 5 (number 4) feerate
command_told command.Sign = told_by 6 empty tt
command_told (command.Shutdown script) = told_by 7 (sized 2) script
command_told (command.Decide event m) = told_by 8 (number 8 & any_mark) (event, m)
command_told (command.Forget id) = told_by 9 (number 8) id
command_told (command.Resume event m) = told_by 10 (number 8 & any_mark) (event, m)

abbrev pub command_at : ℕ → List ℕ → Option (Command × List ℕ)
command_at n bytes =
    if n == 0 then made_at command.Confirm short_id bytes
    else (if n == 1 then made_at (λ p. command.Add p.0 p.1.0 p.1.1.0 p.1.1.1.0 p.1.1.1.1) add_form bytes
    else (if n == 2 then made_at (λ p. command.Fulfil p.0 p.1) (number 8 & fixed 32) bytes
    else (if n == 3 then made_at (λ p. command.Fail p.0 p.1) (number 8 & sized 2) bytes
    else (if n == 4 then made_at (λ p. command.Malformed p.0 p.1.0 p.1.1) (number 8 & fixed 32 & number 2) bytes
    else (if n == 5 then made_at command.Fee (number 4) bytes
    else (if n == 6 then Some (command.Sign, bytes)
    else (if n == 7 then made_at command.Shutdown (sized 2) bytes
    else (if n == 8 then made_at (λ p. command.Decide p.0 p.1) (number 8 & any_mark) bytes
    else (if n == 9 then made_at command.Forget (number 8) bytes
    else (if n == 10 then made_at (λ p. command.Resume p.0 p.1) (number 8 & any_mark) bytes else None))))))))))

-- a byte for the kind, and its fields in their order
unfoldable pub command_form : Format Command
command_form = one_of command_told command_at
