-- What commands bring and updates have, as wide as their types: numbers of 16, 32 and 64 bits, hashes and preimages of
-- 32 bytes, onions of 1,366 (BOLT 2). The reason of a failure that a command proposes may have any length.
use Rattle.std.specs.Prelude.{◌≡◌, ◌<◌, ◌^◌, ℕ, List, length, Option, Some, None}
use Rattle.ln_log.specs.declared.update.Add.{Add}
use Rattle.ln_log.specs.declared.update.Fulfil.{Fulfil}
use Rattle.ln_log.specs.declared.update.Fail.{Fail}
use Rattle.ln_log.specs.declared.update.Malformed.{Malformed}
use Rattle.ln_log.specs.declared.update.Update.{Update}
use Rattle.ln_log.specs.declared.update.Update.TheVariants as update
use Rattle.ln_log.specs.declared.mark.Mark.{Mark}
use Rattle.ln_log.specs.declared.mark.Mark.TheVariants as mark
use Rattle.ln_channel.specs.declared.command.Command.{Command}
use Rattle.ln_channel.specs.declared.command.Command.TheVariants as command

-- the incoming channel and HTLC that an own add forwards
abbrev pub IsOrigin : Option (List ℕ × ℕ) → Type 0
IsOrigin None = Unit {0}
IsOrigin (Some o) = (length o.0 ≡ 32) × (o.1 < 2 ^ 64)

-- ---- updates

pub record IsAdd (a : Add) : Type 0 where
  pub id : a.id < 2 ^ 64
  pub amount : a.amount < 2 ^ 64
  pub hash : length a.hash ≡ 32
  pub expiry : a.expiry < 2 ^ 32
  pub onion : length a.onion ≡ 1366
  pub origin : IsOrigin a.origin

pub record IsFulfil (f : Fulfil) : Type 0 where
  pub id : f.id < 2 ^ 64
  pub preimage : length f.preimage ≡ 32

pub record IsFail (f : Fail) : Type 0 where
  pub id : f.id < 2 ^ 64
  pub reason : length f.reason < 2 ^ 16

pub record IsMalformed (m : Malformed) : Type 0 where
  pub id : m.id < 2 ^ 64
  pub sha256_of_onion : length m.sha256_of_onion ≡ 32
  pub failure_code : m.failure_code < 2 ^ 16

abbrev pub IsUpdate : Update → Type 0
IsUpdate (update.Add a) = IsAdd a
IsUpdate (update.Fulfil f) = IsFulfil f
IsUpdate (update.Fail f) = IsFail f
IsUpdate (update.Malformed m) = IsMalformed m
IsUpdate (update.Fee f) = f.feerate < 2 ^ 32

-- ---- readiness

pub record IsForward (channel : List ℕ) (amount expiry : ℕ) : Type 0 where
  pub channel_fits : length channel ≡ 32
  pub amount_fits : amount < 2 ^ 64
  pub expiry_fits : expiry < 2 ^ 32

-- a reason's length has 64 bits; an HTLC is held by the number of its own event, which an end knows
abbrev pub IsMark : Mark → Type 0
IsMark mark.None = Unit {0}
IsMark (mark.Forward channel amount expiry) = IsForward channel amount expiry
IsMark (mark.Fail reason) = length reason < 2 ^ 64
IsMark (mark.Malformed failure_code) = failure_code < 2 ^ 16
IsMark (mark.Fulfil preimage) = length preimage ≡ 32
IsMark (mark.Held event) = Unit {0}

-- ---- commands

pub record BringsAdd (amount : ℕ) (hash : List ℕ) (expiry : ℕ) (onion : List ℕ) (origin : Option (List ℕ × ℕ)) : Type 0
  where
    pub amount_fits : amount < 2 ^ 64
    pub hash_fits : length hash ≡ 32
    pub expiry_fits : expiry < 2 ^ 32
    pub onion_fits : length onion ≡ 1366
    pub origin_fits : IsOrigin origin

abbrev pub IsCommand : Command → Type 0
IsCommand (command.Confirm id) = Unit {0}
IsCommand (command.Add amount hash expiry onion origin) = BringsAdd amount hash expiry onion origin
IsCommand (command.Fulfil id preimage) = IsFulfil (record { id = id; preimage = preimage })
IsCommand (command.Fail id reason) = id < 2 ^ 64
IsCommand (command.Malformed id sha code) =
    IsMalformed (record { id = id; sha256_of_onion = sha; failure_code = code })
IsCommand (command.Fee feerate) = feerate < 2 ^ 32
IsCommand command.Sign = Unit {0}
IsCommand (command.Shutdown script) = Unit {0}
IsCommand (command.Decide event m) = IsMark m
IsCommand (command.Forget id) = Unit {0}
IsCommand (command.Resume event m) = IsMark m
