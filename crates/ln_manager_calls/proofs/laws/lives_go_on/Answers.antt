use Rattle.ln_manager_calls.specs.Lives.{first_moment, last_moment}
use Rattle.ln_manager_calls.proofs.Lives.{all_at, call_goes, first_at, made_of_none}
use Rattle.ln_manager_calls.proofs.Loading.{load_goes, n}
use Rattle.ln_manager_calls.proofs.laws.lives_go_on.Goals as goal

pub returns-clause-over_calls : goal.returns-clause-over_calls
returns-clause-over_calls g c = λ moments k q are makes.
    let signer = g.K.ChannelKeys.signer in
    call_goes signer (last_moment first_moment moments) (all_at signer first_moment moments are first_at) k q makes

pub returns-clause-over_loads : goal.returns-clause-over_loads
returns-clause-over_loads g c = λ moments saved q are are_saved load.
    let signer = g.K.ChannelKeys.signer in
    let s = last_moment first_moment moments in
    let at = all_at signer first_moment moments are first_at in
    let reads = c.one_record.ensures.reads_what_is_written in
    (n reads s at saved are_saved q load, load_goes reads s at saved are_saved q load signer)

pub returns-clause-of_these : goal.returns-clause-of_these
returns-clause-of_these g c = λ none.
    made_of_none g.K.ChannelKeys.signer c.args.channels.now c.calls_made.ensures none
