-- What crates above cite of the proofs about two ends: this file is the only one that they see.

-- on lists, and on tests
pub use Rattle.ln_channel_laws.proofs.All.{All, all-append, all-take, all-drop, all-filter, all-when}
pub use Rattle.ln_channel_laws.proofs.Tests.{negated, first_none, no_fault, otherwise, where_true, was_given, was_none}
-- what goes into a record
pub use Rattle.ln_channel_laws.proofs.Records.RecordFits.{Where, IsHeld, IsCounted, longest_script, Does, IsDecision}
pub use Rattle.ln_channel_laws.proofs.Records.RecordFits.{IsSettlement, IsWide, IsOf}
pub use Rattle.ln_channel_laws.proofs.Records.RecordContents.{CarriesWide, Origin, contents_of, Fits, length-front}
pub use Rattle.ln_channel_laws.proofs.Records.RecordContents.{wide_of}
pub use Rattle.ln_channel_laws.proofs.Bases.BaseStands.{IsAt}
-- what a turn of an end keeps of its numbers and counts, and of how wide all is
pub use Rattle.ln_channel_laws.proofs.Flight.Sides.{Sign, Revoke, Ready}
pub use Rattle.ln_channel_laws.proofs.Flight.SentAgain.{messages_in-append, again-append}
pub use Rattle.ln_channel_laws.proofs.Events.Decisions.{noted, IsNotReady, not_ready}
pub use Rattle.ln_channel_laws.proofs.Records.CountsOverTurns.{closes_in, IsFee, Steady, raised, settled_steady}
pub use Rattle.ln_channel_laws.proofs.Records.CountsOverTurns.{turn_steady}
pub use Rattle.ln_channel_laws.proofs.Records.CountsOverTurns.{fee_steady, noted_steady, based_steady}
pub use Rattle.ln_channel_laws.proofs.Records.WidthsOverDecisions.{noted_fits}
pub use Rattle.ln_channel_laws.proofs.Records.WidthsOverTurns.{AnswerFits, completes, row_fits, command_fits}
pub use Rattle.ln_channel_laws.proofs.Records.WidthsOverTurns.{meets_fits}
pub use Rattle.ln_channel_laws.proofs.Records.WidthsOverTurns.{next_small}
-- and every list of steps
pub use Rattle.ln_channel_laws.proofs.Records.CountsOverRuns.{first_steady, are_counted}
pub use Rattle.ln_channel_laws.proofs.Records.WidthsOverRuns.{StepIsWide, based_fits, dropped_fits, BothFit, run_fit}
pub use Rattle.ln_channel_laws.proofs.Records.WidthsOverRuns.{are_wide, FitsFirst}
pub use Rattle.ln_channel_laws.proofs.Records.WidthsOverRuns.{first_fits}
-- an act whose messages are lost
pub use Rattle.ln_channel_laws.proofs.Ends.StoppedActs.{greeted, IsLeft, is_deed, left_alone, deeds_leave, deeds_line}
pub use Rattle.ln_channel_laws.proofs.Ends.StoppedActs.{IsCutOff}
pub use Rattle.ln_channel_laws.proofs.Ends.StoppedActs.{cut_off}
-- the moves of the machine, and their events
pub use Rattle.ln_channel_laws.proofs.Machine.RunMoves.{may_be_made, run_after, set_up_so}
pub use Rattle.ln_channel_laws.proofs.Machine.DoneExactly.{both_do}
pub use Rattle.ln_channel_laws.proofs.Events.EventLists.{events_in-append, told_append, events_append}
pub use Rattle.ln_channel_laws.proofs.Events.EventsOverRuns.{events_so, in_step_so}
pub use Rattle.ln_channel_laws.proofs.Events.CloseIsLast.{closes_last, handed_last}
-- what every list of steps promises
pub use Rattle.ln_channel_laws.proofs.Ends.Runs.{flipped}
pub use Rattle.ln_channel_laws.proofs.Ends.Promised.{at_end, headline, none_refused, agrees, readiness_agrees}
pub use Rattle.ln_channel_laws.proofs.Ends.Promised.{none_adds_late}
pub use Rattle.ln_channel_laws.proofs.Ends.Signatures.{both_sign}
pub use Rattle.ln_channel_laws.proofs.Readiness.ShutdownAnswered.{all_answered}
pub use Rattle.ln_channel_laws.proofs.Fees.Deals.{run_fees}
pub use Rattle.ln_channel_laws.proofs.Fees.OneFee.{one_fee, all_taken}
pub use Rattle.ln_channel_laws.proofs.Closing.ClosingEnds.{both_close}
pub use Rattle.ln_channel_laws.proofs.Bases.LongestBase.{both_longest, Stands, both_stand}
pub use Rattle.ln_channel_laws.proofs.Events.Undecided.{IsNamed, NamedIn, first_event, named_by, pending, own_pend}
pub use Rattle.ln_channel_laws.proofs.Events.Undecided.{peer_pend}
-- as it is opened
pub use Rattle.ln_channel_laws.proofs.Ends.JustOpened.{AreFresh, opened_fresh}
