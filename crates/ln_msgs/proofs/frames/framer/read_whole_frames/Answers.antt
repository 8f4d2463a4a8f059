use Rattle.std.proofs.Common.{◌≡◌, [], ◌∷◌, ◌++◌, map, ap, sym, subst, ◌∙◌}
use Rattle.std.proofs.lemmas.List.{map-append}
use Rattle.ln_msgs.specs.Messages.Typed.{heard}
use Rattle.ln_msgs.specs.Frames.Framer.{HearsSoFar}
use Rattle.ln_msgs.proofs.Framing.{hears_on}
use Rattle.ln_msgs.proofs.frames.framer.read_whole_frames.Goals as goal

pub frames-preserved : goal.frames-preserved
frames-preserved c =
    let before = c.frames.messages.items in
    let last = c.in-Ok.incoming in
    let more : map heard c.push.new.self.items ≡ map heard before ++ heard last ∷ [] =
    ap (map heard) c.in_ok-push-in-Ok.ensures.items ∙ map-append heard before (last ∷ []) in
    subst (λ hs. HearsSoFar c.args.bytes.now hs c.in-Some.after.now) (sym more)
    (hears_on c.args.bytes.now c.frames.rest.now c.in-Some.message.now c.in-Some.after.now (map heard before)
    (heard last) c.frames.invariant c.in-Some.ensures.cuts_off_a_whole_frame c.in-Ok.ensures.reads_as_defined)
