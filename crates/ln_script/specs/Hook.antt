-- The hooks of a script: what its hook lines ask for, and what each of them says of an event.
use Rattle.std.specs.Prelude.{◌≡◌, ℕ, List, [], ◌∷◌, not, ◌&&◌, ◌==◌, nat_lt, codes, Option, Some, None}
use Rattle.std.specs.Prelude.{if◌then◌else◌}
use Rattle.std.specs.Str.{bytes_eq}
use Rattle.ln_hooks.specs.declared.event.ChannelEvent.{ChannelEvent}
use Rattle.ln_hooks.specs.declared.event.ChannelEvent.TheVariants as event
use Rattle.ln_hooks.specs.declared.verdict.FailureCode.{FailureCode}
use Rattle.ln_hooks.specs.declared.verdict.FailureCode.TheVariants as code
use Rattle.ln_hooks.specs.declared.verdict.Verdict.{Verdict}
use Rattle.ln_hooks.specs.declared.verdict.Verdict.TheVariants.{Continue, Fail, Hold}
use Rattle.ln_hooks.specs.Verdict.{code_number}
use Rattle.ln_script.specs.declared.hook.HookLine.{HookLine}
use Rattle.ln_script.specs.declared.hook.HookLine.TheVariants as hook
use Rattle.ln_script.specs.declared.hook.Hooked.{Hooked}
use Rattle.ln_script.specs.Word.{◌>>=◌, decimal_at, end_at, code_at}

-- ---- what a hook says

-- an HTLC that the peer offers and that is of more msat than these fails
abbrev pub above : ℕ → FailureCode → ChannelEvent → Verdict
above most why (event.Added own id amount hash expiry onion) =
    if not own && nat_lt most amount then Fail why else Continue
above most why e = Continue

-- or waits
abbrev pub hold : ℕ → ChannelEvent → Verdict
hold most (event.Added own id amount hash expiry onion) =
    if not own && nat_lt most amount then Hold else Continue
hold most e = Continue

abbrev pub says : HookLine → ChannelEvent → Verdict
says hook.Count e = Continue
says (hook.Above most why) e = above most why e
says (hook.Hold most) e = hold most e

-- it is called on an event, says so, and stays as it is
abbrev pub SaysOf : HookLine → ChannelEvent → Verdict → HookLine → Type 0
SaysOf h e said after = (said ≡ says h e) × (after ≡ h)

-- ---- the codes by which a hook may fail a payment

abbrev pub all_codes : List FailureCode
all_codes =
    code.TemporaryChannelFailure ∷ code.UnknownNextPeer ∷ code.AmountBelowMinimum ∷ code.FeeInsufficient
    ∷ code.IncorrectCltvExpiry ∷ code.ExpiryTooSoon ∷ code.IncorrectOrUnknownPaymentDetails
    ∷ code.FinalIncorrectCltvExpiry ∷ code.FinalIncorrectHtlcAmount ∷ code.ExpiryTooFar ∷ code.InvalidOnionPayload ∷ []

abbrev pub code_among : List FailureCode → ℕ → Option FailureCode
code_among [] n = None
code_among (c ∷ cs) n = if code_number c == n then Some c else code_among cs n

-- the one of this number
unfoldable pub lawful : ℕ → Option FailureCode
lawful n = code_among all_codes n

abbrev pub lawful_at : List ℕ → Option FailureCode
lawful_at w = do
  number ← code_at w
  lawful number

-- ---- what the words after hook ask for

-- AMOUNT CODE
abbrev pub above_at : List ℕ → List ℕ → Option HookLine
above_at a c = do
  amount ← decimal_at a
  why ← lawful_at c
  Some (hook.Above amount why)

abbrev pub above_hook : List (List ℕ) → Option HookLine
above_hook (a ∷ c ∷ []) = above_at a c
above_hook _ = None

-- AMOUNT
abbrev pub hold_hook : List (List ℕ) → Option HookLine
hold_hook (a ∷ []) = do
  amount ← decimal_at a
  Some (hook.Hold amount)
hold_hook _ = None

abbrev pub count_hook : List (List ℕ) → Option HookLine
count_hook [] = Some hook.Count
count_hook _ = None

abbrev pub hook_at : List ℕ → List (List ℕ) → Option HookLine
hook_at w ws =
    if bytes_eq w (codes "count") then count_hook ws
    else (if bytes_eq w (codes "above") then above_hook ws
    else (if bytes_eq w (codes "hold") then hold_hook ws else None))

-- E count, E above AMOUNT CODE, or E hold AMOUNT
unfoldable pub hook_of : List ℕ → List ℕ → List (List ℕ) → Option Hooked
hook_of e w ws = do
  end ← end_at e
  hook ← hook_at w ws
  Some (record { end = end; hook = hook })

abbrev pub hooked_at : List (List ℕ) → Option Hooked
hooked_at (e ∷ w ∷ ws) = hook_of e w ws
hooked_at _ = None
