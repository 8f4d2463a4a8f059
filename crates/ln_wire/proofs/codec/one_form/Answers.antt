use Rattle.ln_wire.specs.Commands.{command_form}
use Rattle.ln_wire.specs.Items.{saved, item_form}
use Rattle.ln_wire.specs.Questions.{question_form, view_form}
use Rattle.ln_wire.specs.Setup.{config, spec}
use Rattle.ln_wire.specs.Summary.{summary}
use Rattle.ln_wire.proofs.Wholes.{one_form}
use Rattle.ln_wire.proofs.SetupLaws.{config_is_read_alone, spec_is_read_alone}
use Rattle.ln_wire.proofs.CommandLaws.{command_is_read_alone}
use Rattle.ln_wire.proofs.QuestionLaws.{question_is_read_alone, view_is_read_alone}
use Rattle.ln_wire.proofs.ItemLaws.{saved_is_read_alone, item_is_read_alone}
use Rattle.ln_wire.proofs.SummaryLaws.{summary_is_read_alone}
use Rattle.ln_wire.proofs.codec.one_form.Goals as goal

pub returns-clause-config : goal.returns-clause-config
returns-clause-config c = one_form config config_is_read_alone

pub returns-clause-spec : goal.returns-clause-spec
returns-clause-spec c = one_form spec spec_is_read_alone

pub returns-clause-command : goal.returns-clause-command
returns-clause-command c = one_form command_form command_is_read_alone

pub returns-clause-saved : goal.returns-clause-saved
returns-clause-saved c = one_form saved saved_is_read_alone

pub returns-clause-question : goal.returns-clause-question
returns-clause-question c = one_form question_form question_is_read_alone

pub returns-clause-item : goal.returns-clause-item
returns-clause-item c = one_form item_form item_is_read_alone

pub returns-clause-summary : goal.returns-clause-summary
returns-clause-summary c = one_form summary summary_is_read_alone

pub returns-clause-view : goal.returns-clause-view
returns-clause-view c = one_form view_form view_is_read_alone
