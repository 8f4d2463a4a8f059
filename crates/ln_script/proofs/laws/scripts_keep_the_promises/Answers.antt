use Rattle.std.proofs.Common.{ℕ, List}
use Rattle.ln_keys.specs.declared.toy_keys.ToyKeys.{ToyKeys}
use Rattle.ln_keys.specs.Toy.{toy_signer}
use Rattle.ln_hooks.specs.declared.verdict.Verdict.{Verdict}
use Rattle.ln_world_channels.specs.Promises.{Headline, NoneRefused, AllTaken, OneFee, Agrees}
use Rattle.ln_world_channels.specs.Promises.{AnswersShutdown, ReadinessAgrees, BothClose, DoExactly}
use Rattle.ln_world_channels.specs.Longest.{BasesAreLongest}
use Rattle.ln_world_channels.specs.Signing.{SignCovered}
use Rattle.ln_world.specs.World.{World, empty, run}
use Rattle.ln_world.specs.Promises.{OfEach}
use Rattle.ln_script.specs.Keys.{toy}
use Rattle.ln_script.specs.Step.{ToyStep}
use Rattle.ln_script.specs.Report.{AfterEachScript, said_by}
use Rattle.ln_script.proofs.Widths.{steps_are_wide}
use Rattle.ln_script.proofs.Recorded.{all_brought}
use Rattle.ln_script.proofs.laws.scripts_keep_the_promises.Goals as goal

-- what every list of steps leaves is left by every script
after_each : (P : World ToyKeys → Type 0)
    → ((steps : List (ToyStep × Verdict)) (hooks : ℕ) → P (run toy steps (empty hooks))) → AfterEachScript P
after_each P law text steps a hooks read = law (said_by a hooks steps) hooks

pub returns-clause-headline : goal.returns-clause-headline
returns-clause-headline c = after_each (OfEach Headline) c.headline.ensures.holds_what_is_covered

pub returns-clause-no_add_follows_a_shutdown : goal.returns-clause-no_add_follows_a_shutdown
returns-clause-no_add_follows_a_shutdown c text steps a hooks number read =
    c.headline.ensures.adds_nothing_late (said_by a hooks steps) hooks number

pub returns-clause-calls_follow : goal.returns-clause-calls_follow
returns-clause-calls_follow c text steps a hooks read =
    c.headline.ensures.calls_follow (said_by a hooks steps) hooks

pub returns-clause-never_refused : goal.returns-clause-never_refused
returns-clause-never_refused c = after_each (OfEach (NoneRefused toy_signer)) c.never_refused.ensures

pub returns-clause-never_refused_where_fees_overlap : goal.returns-clause-never_refused_where_fees_overlap
returns-clause-never_refused_where_fees_overlap c =
    after_each (OfEach (AllTaken toy_signer)) c.never_refused_where_fees_overlap.ensures

pub returns-clause-closed_at_one_fee : goal.returns-clause-closed_at_one_fee
returns-clause-closed_at_one_fee c = after_each (OfEach OneFee) c.closed_at_one_fee.ensures

pub returns-clause-a_shutdown_is_answered : goal.returns-clause-a_shutdown_is_answered
returns-clause-a_shutdown_is_answered c = after_each (OfEach AnswersShutdown) c.a_shutdown_is_answered.ensures

pub returns-clause-agreement : goal.returns-clause-agreement
returns-clause-agreement c = after_each (OfEach Agrees) c.agreement.ensures

pub returns-clause-readiness_agrees_at_rest : goal.returns-clause-readiness_agrees_at_rest
returns-clause-readiness_agrees_at_rest c = after_each (OfEach ReadinessAgrees) c.readiness_agrees_at_rest.ensures

pub returns-clause-closing_ends : goal.returns-clause-closing_ends
returns-clause-closing_ends c = after_each (OfEach BothClose) c.closing_ends.ensures

pub returns-clause-signatures_are_over_what_is_covered : goal.returns-clause-signatures_are_over_what_is_covered
returns-clause-signatures_are_over_what_is_covered c =
    after_each (OfEach (SignCovered toy_signer)) c.signatures_are_over_what_is_covered.ensures

pub returns-clause-commands_are_done_exactly : goal.returns-clause-commands_are_done_exactly
returns-clause-commands_are_done_exactly c =
    after_each (OfEach (DoExactly toy_signer)) c.commands_are_done_exactly.ensures

pub returns-clause-channels_open_as_set : goal.returns-clause-channels_open_as_set
returns-clause-channels_open_as_set c text steps a hooks number read =
    c.channels_open_as_set.ensures (said_by a hooks steps) hooks number

pub returns-clause-moves_are_the_machines : goal.returns-clause-moves_are_the_machines
returns-clause-moves_are_the_machines c text steps a hooks number read =
    c.moves_are_the_machines.ensures (said_by a hooks steps) hooks number

pub returns-clause-each_move_may_be_made : goal.returns-clause-each_move_may_be_made
returns-clause-each_move_may_be_made c text steps a hooks number read =
    c.each_move_may_be_made.ensures (said_by a hooks steps) hooks number

pub returns-clause-events_are_reported : goal.returns-clause-events_are_reported
returns-clause-events_are_reported c text steps a hooks number side read =
    c.events_are_reported.ensures (said_by a hooks steps) hooks number side

pub returns-clause-undecided_events_are_the_machines : goal.returns-clause-undecided_events_are_the_machines
returns-clause-undecided_events_are_the_machines c text steps a hooks number side read =
    c.undecided_events_are_the_machines.ensures (said_by a hooks steps) hooks number side

pub returns-clause-close_is_the_last_move_told : goal.returns-clause-close_is_the_last_move_told
returns-clause-close_is_the_last_move_told c text steps a hooks number side read =
    c.close_is_last.ensures.of_the_moves (said_by a hooks steps) hooks number side

pub returns-clause-close_is_last : goal.returns-clause-close_is_last
returns-clause-close_is_last c text steps a hooks number side read =
    c.close_is_last.ensures.of_what_is_handed_out (said_by a hooks steps) hooks number side

pub returns-clause-decisions_follow_dispatches : goal.returns-clause-decisions_follow_dispatches
returns-clause-decisions_follow_dispatches c text steps a hooks read =
    c.decisions_follow_dispatches.ensures (said_by a hooks steps) hooks

pub returns-clause-every_end_has_a_record : goal.returns-clause-every_end_has_a_record
returns-clause-every_end_has_a_record c text steps a hooks read =
    c.every_end_has_a_record.ensures.records (said_by a hooks steps) hooks
    (all_brought a steps (empty hooks) (steps_are_wide text steps read))

pub returns-clause-bases_are_the_longest : goal.returns-clause-bases_are_the_longest
returns-clause-bases_are_the_longest c = after_each (OfEach BasesAreLongest) c.bases_are_the_longest.ensures

pub returns-clause-one_payment_out : goal.returns-clause-one_payment_out
returns-clause-one_payment_out c text steps a hooks node read =
    c.one_payment_out.ensures (said_by a hooks steps) hooks node
