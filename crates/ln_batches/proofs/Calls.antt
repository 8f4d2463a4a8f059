-- What calls make of lines, and of what has left.
use Rattle.std.proofs.Common.{◌≡◌, ℕ, ◌+◌, ◌≤◌, Bool, true, false, List, [], ◌∷◌, ◌++◌, Option, Some, None}
use Rattle.std.specs.Prelude.{⊤, ◌==◌, ◌&&◌, nat_le, slice_get, slice_set}
use Rattle.std.proofs.Common.{refl, sym, ap, subst, ◌∙◌, append_assoc, arith}
use Rattle.std.proofs.lemmas.Bool.{leb-true}
use Rattle.ln_batches.specs.declared.row.Waiting.{Waiting}
use Rattle.ln_batches.specs.Queues.{Row, Queues, new_row, first_in, first_of, first_at, may_leave, rest, first_filled}
use Rattle.ln_batches.specs.Queues.{no_queue, with_channel, changed_at, changed, pushed_at, pushed, lost_at, lost}
use Rattle.ln_batches.specs.Queues.{handed_at, handed, sent_at, sent, filled_at, filled, is_with_host, is_out_at}
use Rattle.ln_batches.specs.Queues.{row_closed, rows_closed, closed, can_close, row_saved, rows_saved, saved, is_closed}
use Rattle.ln_batches.specs.Calls.{Call, Adds, Changes, Comes, Hands, Fills, Sends, Loses, Closes, Saves, Gone, Past}
use Rattle.ln_batches.specs.Calls.{begun, gone_by, sends, if_so, happens, run, AreSaved, if_of, of_channel, AreRising}

-- ---- each left once all was saved that had changed as it came

and_second : (a b : Bool) → (a && b) ≡ true → b ≡ true
and_second true b e = e
and_second false b e = absurd cc

saved_more : (gs hs : List Gone) → AreSaved gs → AreSaved hs → AreSaved (gs ++ hs)
saved_more [] hs a b = b
saved_more (g ∷ gs) hs a b = (a.0, saved_more gs hs a.1 b)

saved_by : {M : Type 0} → (q : Queues M) (c : ℕ) (o : Option (Waiting M)) → may_leave q o ≡ true
    → AreSaved (gone_by c q.saved_records o)
saved_by q c None e = tt
saved_by q c (Some w) e = (leb-true w.records q.saved_records e, tt)

saved_sends : {M : Type 0} → (b : Bool) (c : ℕ) (p : Past M)
    → (b ≡ true → may_leave p.queues (first_at c p.queues) ≡ true) → AreSaved p.gone → AreSaved (sends b c p).gone
saved_sends false c p e a = a
saved_sends true c p e a =
    saved_more p.gone (gone_by c p.queues.saved_records (first_at c p.queues)) a
    (saved_by p.queues c (first_at c p.queues) (e refl))

saved_happens : {M : Type 0} → (c : Call M) (p : Past M) → AreSaved p.gone → AreSaved (happens c p).gone
saved_happens (Adds n) p a = a
saved_happens (Changes c n) p a = a
saved_happens (Comes c m) p a = a
saved_happens (Hands c) p a = a
saved_happens (Fills c f) p a = a
saved_happens (Sends c n) p a =
    saved_sends (is_with_host c n p.queues && may_leave p.queues (first_at c p.queues)) c p
    (λ e. and_second (is_with_host c n p.queues) (may_leave p.queues (first_at c p.queues)) e) a
saved_happens (Loses c) p a = a
saved_happens Closes p a = a
saved_happens (Saves b) p a = a

saved_run : {M : Type 0} → (cs : List (Call M)) (p : Past M) → AreSaved p.gone → AreSaved (run cs p).gone
saved_run [] p a = a
saved_run (c ∷ cs) p a = saved_run cs (happens c p) (saved_happens c p a)

pub saved_first : {M : Type 0} → (cs : List (Call M)) → AreSaved (run cs begun).gone
saved_first cs = saved_run cs begun tt
