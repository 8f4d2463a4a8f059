-- Whatever a call of a node's channels leaves, a manager that takes steps has it, too.
use Rattle.std.proofs.Common.{inl, inr, refl, ap, ◌∙◌}
use Rattle.ln_keys.specs.Signer.{Signer}
use Rattle.ln_book_tables.specs.declared.entry.Entry.TheVariants as entry
use Rattle.ln_book_tables.specs.Replay.{table_of}
use Rattle.ln_channel.specs.declared.machine.Stage.TheVariants as stage
use Rattle.ln_manager_channels.specs.Calls.{Parts, Call, Makes, Make, Running, IsOutcome, no_parts}
use Rattle.ln_manager_channels.specs.Calls as call
use Rattle.ln_manager_channels.specs.Moves.{batched}
use Rattle.ln_manager_calls.specs.Standing.{Loaded, kept_at}
use Rattle.ln_manager_calls.proofs.Deciding.{decides_next, resumes_at}
use Rattle.ln_manager_calls.proofs.Hearing.{hears, height, follows, routes, sets}
use Rattle.ln_manager_calls.proofs.Hosting.{commands, connects, halted, names, same_lead, same_records}
use Rattle.ln_manager_calls.proofs.Kept.{view, Leads}
use Rattle.ln_manager_calls.proofs.Losing.{adds, loses}
use Rattle.ln_manager_calls.proofs.Messaging.{messages}
use Rattle.ln_manager_calls.proofs.Obeying.{obeys_book}
use Rattle.ln_manager_calls.proofs.Recording.{changed_same}

module _ {K : Type 0} (signer : K → Signer) (old : Loaded) where
  pub call_leads : (p q : Parts K) → (k : Call K) → Makes signer k p q → Leads signer (view old p) (view old q)
  call_leads p q (call.AddFunder keys spec) h = adds signer old p q keys (stage.AwaitsAccept spec) tt h
  call_leads p q (call.AddFundee keys config) h = adds signer old p q keys (stage.AwaitsOpen config) tt h
  call_leads p q (call.Batch c) h =
      same_lead signer (view old p) (view old q) h.0 (λ k. ap (λ ns. kept_at old ns k) h.1
      ∙ changed_same old batched (λ n. refl) c p.records k) h.2.0 (ap table_of h.2.1)
  call_leads p q (call.NameFunding c txid output) h = names signer old p q h.1 c txid output h.0
  call_leads p q (call.Connect c) h = connects signer old p q h.1 c h.0.0 h.0.1
  call_leads p q (call.Disconnect c) h = loses signer old p q c h.0 h.1 h.2
  call_leads p q (call.Halt c) h = halted signer old p q h.1 c h.0
  call_leads p q (call.Message c keys m) h = messages signer old p q h.1 c keys m h.0.0 h.0.1
  call_leads p q (call.Command c x) h = commands signer old p q h.1 c x h.0.0 h.0.1
  call_leads p q (call.ObeyBook s c) (inl h, numbers) = obeys_book signer old p q numbers s c h.0 h.1
  call_leads p q (call.ObeyBook s c) (inr h, numbers) =
      same_lead signer (view old p) (view old q) h.0 (same_records old p q h.2) numbers (ap table_of h.1)
  call_leads p q (call.Decide s c v) (inl h, numbers) = decides_next signer old p q numbers s c v h.0 h.1
  call_leads p q (call.Decide s c v) (inr h, numbers) =
      same_lead signer (view old p) (view old q) h.0 (same_records old p q h.2) numbers (ap table_of h.1)
  call_leads p q (call.Resume s c n v) (inl h, numbers) = resumes_at signer old p q numbers s c v n h.0 h.1
  call_leads p q (call.Resume s c n v) (inr h, numbers) =
      same_lead signer (view old p) (view old q) h.0 (same_records old p q h.2) numbers (ap table_of h.1)
  call_leads p q (call.Hear c n) h = hears signer old p q c n h
  call_leads p q (call.Follow policy used) (inl h) = follows signer old p q policy used h
  call_leads p q (call.Follow policy used) (inr h) = routes signer old p q policy used h
  call_leads p q (call.SetHeight n) h = height signer old p q n h
  call_leads p q (call.Expect preimage secret amount) h = sets signer old p q (entry.Expect _) tt h
