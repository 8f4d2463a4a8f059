-- Runs that show that the moves can be made, and what a rebuild reads of them.
use Rattle.std.proofs.Common.{◌≡◌, List, [], ◌∷◌, true, false, refl, Some, None, take}
use Rattle.ln_payment.specs.Parts.{Covered, Fails, Forward, Hold, Offered, Open, Refused, RemovalSent, begun}
use Rattle.ln_payment.specs.Moves.{AreMade, Clear, Close, Decide, End, Forget, Halt, Hear, HoldRemoval, Move, Offer}
use Rattle.ln_payment.specs.Moves.{PutBack, Refuse, Reload, Remove, Restart, Resume, Settle, SignOuts, SignRemoval}
use Rattle.ln_payment.specs.Moves.{Take, Tell, after}
use Rattle.ln_payment.specs.Moves.{IsTold}

-- an add that is offered and lost before it is signed is offered again
abbrev lost : List Move
lost = Decide Forward ∷ Offer 1 0 ∷ Restart true ∷ Offer 1 0 ∷ SignOuts 1 ∷ []

lost_made : AreMade lost begun
lost_made = (refl, (tt, (tt, (tt, (tt, tt)))))

lost_outs : (after lost begun).outs ≡ record { channel = 1; id = 0; course = Covered } ∷ []
lost_outs = refl

-- one that is signed isn't
abbrev signed : List Move
signed = Decide Forward ∷ Offer 1 0 ∷ SignOuts 1 ∷ Restart true ∷ []

signed_made : AreMade signed begun
signed_made = (refl, (tt, (tt, (tt, tt))))

signed_entry : (after signed begun).note ≡ Some (record { mark = Forward; outgoing = Offered 1 0; incoming = Open })
signed_entry = refl

-- what is failed and signed isn't offered any more
abbrev failed : List Move
failed = Decide Forward ∷ Refuse ∷ Remove Fails ∷ SignRemoval ∷ Restart true ∷ []

failed_made : AreMade failed begun
failed_made = (refl, (tt, ((refl, refl), (tt, (tt, tt)))))

failed_entry : (after failed begun).note ≡ Some (record { mark = Forward; outgoing = Refused; incoming = RemovalSent })
failed_entry = refl

-- but what is failed and lost is
abbrev unsigned : List Move
unsigned = Decide Forward ∷ Refuse ∷ Remove Fails ∷ Restart true ∷ Offer 1 0 ∷ SignOuts 1 ∷ []

unsigned_made : AreMade unsigned begun
unsigned_made = (refl, (tt, ((refl, refl), (tt, (tt, (tt, tt))))))

unsigned_outs : (after unsigned begun).outs ≡ record { channel = 1; id = 0; course = Covered } ∷ []
unsigned_outs = refl

-- a failure is passed back, and the result forgotten: nothing is left of the payment
abbrev passed : List Move
passed =
    Decide Hold ∷ Resume Forward ∷ Offer 1 0 ∷ SignOuts 1 ∷ End 1 0 Fails ∷ Tell 1 0 Fails ∷ Remove Fails ∷ SignRemoval
    ∷ HoldRemoval ∷ Settle ∷ Forget 1 0 ∷ Close ∷ Clear ∷ Restart false ∷ []

passed_made : AreMade passed begun
passed_made =
    let told : IsTold 1 0 Fails (after (take 5 passed) begun) = ((refl, refl), refl, ((λ p. refl), tt)) in
    (refl, (refl, (tt, (tt, (tt, (told, ((refl, refl), (tt, (tt, (tt, (refl, (refl, (tt, (tt, tt))))))))))))))

passed_entry : (after passed begun).note ≡ None
passed_entry = refl

-- a link that has halted lost the add; the book isn't told before the restart
abbrev halted : List Move
halted = Decide Forward ∷ Offer 1 0 ∷ Halt 1 ∷ Restart true ∷ Offer 2 0 ∷ SignOuts 2 ∷ []

halted_made : AreMade halted begun
halted_made = (refl, (tt, (tt, (tt, (tt, (tt, tt))))))

halted_outs : (after halted begun).outs ≡ record { channel = 2; id = 0; course = Covered } ∷ []
halted_outs = refl

-- or it is loaded beside the book, which hears first that the add is lost
abbrev reloaded : List Move
reloaded = Decide Forward ∷ Offer 1 0 ∷ Halt 1 ∷ PutBack 1 0 ∷ Reload 1 ∷ Offer 1 0 ∷ SignOuts 1 ∷ []

reloaded_made : AreMade reloaded begun
reloaded_made = (refl, (tt, (tt, (((refl, refl), tt), (tt, (tt, (tt, tt)))))))

reloaded_outs : (after reloaded begun).outs ≡ record { channel = 1; id = 0; course = Covered } ∷ []
reloaded_outs = refl

-- a channel has kept a decision of which the book hears as it is loaded
abbrev heard : List Move
heard = Take Forward ∷ Halt 2 ∷ Hear Forward ∷ Reload 2 ∷ Offer 1 0 ∷ SignOuts 1 ∷ []

heard_made : AreMade heard begun
heard_made = (refl, (tt, ((refl, refl, refl), (tt, (tt, (tt, tt))))))

heard_outs : (after heard begun).outs ≡ record { channel = 1; id = 0; course = Covered } ∷ []
heard_outs = refl
