-- Which commands of a link are whose.
use Rattle.std.specs.Prelude.{ℕ, Bool, true, false, ◌==◌, Some, None}
use Rattle.ln_channel.specs.declared.command.Command.{Command}
use Rattle.ln_channel.specs.declared.command.Command.TheVariants as command

-- those by which a link decides what is done about an HTLC
abbrev pub is_decision : Command → Bool
is_decision (command.Confirm id) = false
is_decision (command.Add amount hash expiry onion origin) = false
is_decision (command.Fulfil id preimage) = false
is_decision (command.Fail id reason) = false
is_decision (command.Malformed id sha code) = false
is_decision (command.Fee feerate) = false
is_decision command.Sign = false
is_decision (command.Shutdown script) = false
is_decision (command.Decide event mark) = true
is_decision (command.Forget id) = false
is_decision (command.Resume event mark) = true

-- what a user may command: it neither removes an HTLC nor decides about one, nor offers one that forwards another
abbrev pub is_users : Command → Bool
is_users (command.Confirm id) = true
is_users (command.Add amount hash expiry onion None) = true
is_users (command.Add amount hash expiry onion (Some origin)) = false
is_users (command.Fulfil id preimage) = false
is_users (command.Fail id reason) = false
is_users (command.Malformed id sha code) = false
is_users (command.Fee feerate) = true
is_users command.Sign = true
is_users (command.Shutdown script) = true
is_users (command.Decide event mark) = false
is_users (command.Forget id) = false
is_users (command.Resume event mark) = false

-- ---- what was just decided is what a link is told

abbrev pub decides : ℕ → Command → Bool
decides n (command.Confirm id) = false
decides n (command.Add amount hash expiry onion origin) = false
decides n (command.Fulfil id preimage) = false
decides n (command.Fail id reason) = false
decides n (command.Malformed id sha code) = false
decides n (command.Fee feerate) = false
decides n command.Sign = false
decides n (command.Shutdown script) = false
decides n (command.Decide event mark) = event == n
decides n (command.Forget id) = false
decides n (command.Resume event mark) = false

abbrev pub resumes : ℕ → Command → Bool
resumes n (command.Confirm id) = false
resumes n (command.Add amount hash expiry onion origin) = false
resumes n (command.Fulfil id preimage) = false
resumes n (command.Fail id reason) = false
resumes n (command.Malformed id sha code) = false
resumes n (command.Fee feerate) = false
resumes n command.Sign = false
resumes n (command.Shutdown script) = false
resumes n (command.Decide event mark) = false
resumes n (command.Forget id) = false
resumes n (command.Resume event mark) = event == n
