-- What a script's steps bring is as wide as it is in code: numbers of 16, 32 and 64 bits, payment secrets, hashes and
-- preimages of 32 bytes, onions of 1,366.
use Rattle.std.specs.Prelude.{◌≡◌, ◌<◌, ◌≤◌, ◌^◌, List, length}
use Rattle.ln_forward.specs.declared.checks.Policy.{Policy}
use Rattle.ln_book_tables.specs.declared.entry.Invoice.{Invoice}
use Rattle.ln_world_channels.specs.Promises.{Each}
use Rattle.ln_close.specs.declared.closing.Fees.{Fees}
use Rattle.ln_log.specs.declared.opening.Limits.{Limits}
use Rattle.ln_world.specs.declared.step.Step.TheVariants as step
use Rattle.ln_world.specs.Records.{IsAct}
use Rattle.ln_script.specs.Step.{ToyStep}

pub record AreFees (f : Fees) : Type 0 where
  pub first : f.first < 2 ^ 64
  pub least : f.least < 2 ^ 64
  pub greatest : f.greatest < 2 ^ 64

pub record AreLimits (l : Limits) : Type 0 where
  pub minimum : l.minimum < 2 ^ 64
  pub accepted : l.accepted < 2 ^ 16
  pub in_flight : l.in_flight < 2 ^ 64
  pub reserve : l.reserve < 2 ^ 64

pub record IsPolicy (p : Policy) : Type 0 where
  pub base : p.base < 2 ^ 32
  pub proportional : p.proportional < 2 ^ 32
  pub delta : p.delta < 2 ^ 16

pub record IsInvoice (i : Invoice) : Type 0 where
  pub preimage : length i.preimage ≡ 32
  pub secret : length i.expected.secret ≡ 32
  pub amount : i.expected.amount < 2 ^ 64

abbrev pub IsWide : ToyStep → Type 0
IsWide (step.Fees n fees) = AreFees fees
IsWide (step.Limits n limits) = AreLimits limits
IsWide (step.Policy n policy) = IsPolicy policy
IsWide (step.Height n height) = height ≤ 400000000
IsWide (step.Expect n invoice) = IsInvoice invoice
IsWide (step.Do e a) = IsAct a
IsWide (step.NoMemory e a) = IsAct a
IsWide (step.StopBefore e a) = IsAct a
IsWide (step.StopAfter e a) = IsAct a
IsWide s = Unit {0}

abbrev pub AreAsWide : List ToyStep → Type 0
AreAsWide steps = Each IsWide steps
