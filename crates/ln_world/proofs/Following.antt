-- Channel by channel, and event by event.
use Rattle.std.proofs.Common.{◌≡◌, ℕ, suc, ◌+◌, ◌-◌, ◌<◌, List, [], refl, ap, ◌∙◌, arith, sym}
use Rattle.ln_forward.specs.declared.checks.Policy.{Policy}
use Rattle.ln_channel.specs.End.{End as ChannelEnd}
use Rattle.ln_world_channels.specs.declared.step.Node.{Node}
use Rattle.ln_world_channels.specs.WorldChannel.{WorldChannel}
use Rattle.ln_world_channels.specs.World.{channel}
use Rattle.ln_world_dispatch.specs.World.{undecided}
use Rattle.ln_book.specs.Rebuild.{ChannelSnapshot}
use Rattle.ln_world.specs.Node.{Book}
use Rattle.ln_world.specs.BookReports.{with_event, with_events}
use Rattle.ln_world.specs.Follow.{followed_below, with_channel, snapshots_below, snapshot_in}

pub none_followed : {K : Type 0} (n : Node) (p : Policy) (cs : List (WorldChannel K)) (b : Book)
    → b ≡ followed_below 0 n p cs b
unfolding followed_below
none_followed n p cs b = refl

pub one_followed : {K : Type 0} (m : ℕ) (n : Node) (p : Policy) (cs : List (WorldChannel K)) (b c d : Book)
    → c ≡ followed_below m n p cs b → d ≡ with_channel n p (channel m cs) c → d ≡ followed_below (suc m) n p cs b
unfolding followed_below
one_followed m n p cs b c d h i = i ∙ ap (λ x. with_channel n p (channel m cs) x) h

pub none_read : {K : Type 0} (n : Node) (cs : List (WorldChannel K)) → [] ≡ snapshots_below 0 n cs
unfolding snapshots_below
none_read n cs = refl

pub one_read : {K : Type 0} (m : ℕ) (n : Node) (cs : List (WorldChannel K)) (rs ss : List ChannelSnapshot)
    → rs ≡ snapshots_below m n cs → ss ≡ snapshot_in n (channel m cs) rs → ss ≡ snapshots_below (suc m) n cs
unfolding snapshots_below
one_read m n cs rs ss h i = i ∙ ap (λ x. snapshot_in n (channel m cs) x) h

-- the events from this number on, one of them reported
pub one_heard : (id : List ℕ) (n count : ℕ) (e : ChannelEnd) (b c : Book) → n < count
    → c ≡ with_event id (undecided n e) b
    → with_events id (n + 1) (count - (n + 1)) e c ≡ with_events id n (count - n) e b
one_heard id n count e b c lt h =
    let more : count - n ≡ suc (count - (n + 1)) = omega (arith, lt) in
    ap (λ x. with_events id (n + 1) (count - (n + 1)) e x) h
    ∙ sym (ap (λ k. with_events id n k e b) more)

pub all_heard : (id : List ℕ) (n count : ℕ) (e : ChannelEnd) (b : Book) → count - n ≡ 0
    → with_events id n (count - n) e b ≡ b
all_heard id n count e b none = ap (λ k. with_events id n k e b) none
