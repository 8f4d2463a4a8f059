-- What is known of a reader and a writer after pings were answered, where their bytes are known: what was
-- read, and what was written.
use Rattle.std.specs.Prelude.{◌≡◌, ℕ, List, ◌++◌, Option, ◌⊎◌}
use Rattle.std.specs.Io.KnownBytes.{Consumes, Appends, IsAtEnd}
use Rattle.ln_bytes.specs.declared.fault.Fault.{Fault}
use Rattle.ln_bytes.specs.declared.fault.Fault.TheVariants.{Truncated}
use Rattle.ln_msgs.specs.Messages.Message.{Heard}
use Rattle.ln_msgs.specs.Frames.Frame.{Hears, IsFaulty, IsCut}
use Rattle.ln_msgs.specs.Pings.Answer.{replies, pongs, told}
use Rattle.ln_msgs.specs.Pings.Written.{IsPartlyWritten}

module _ (reader reader_after writer writer_after : Option (List ℕ)) where
  -- The reader was read to its end, all of it whole frames, and the replies to their messages were
  -- written: so many pongs.
  pub record AnswersAll (count : ℕ) : Type 0 where
    pub heard : List Heard
    pub read : List ℕ
    pub hears : Hears heard read
    pub consumed : Consumes reader reader_after read
    pub ended : IsAtEnd reader_after
    pub replied : Appends writer writer_after (replies heard)
    pub counted : count ≡ told (pongs heard)

  -- after whole frames comes the first fault: that of a message, or an end inside a frame
  abbrev pub HasFirstFault : List ℕ → Fault → Type 0
  HasFirstFault rest f = IsFaulty rest f ⊎ ((f ≡ Truncated) × IsCut rest × IsAtEnd reader_after)

  -- whole frames and then a fault were read, and all replies to the frames before it were written
  pub record AnswersUpTo (f : Fault) : Type 0 where
    pub heard : List Heard
    pub front : List ℕ
    pub rest : List ℕ
    pub hears : Hears heard front
    pub consumed : Consumes reader reader_after (front ++ rest)
    pub fault : HasFirstFault rest f
    pub replied : Appends writer writer_after (replies heard)

  -- whole frames and perhaps more were read, and of the replies to these frames a beginning was written
  pub record AnswersSome : Type 0 where
    pub heard : List Heard
    pub front : List ℕ
    pub rest : List ℕ
    pub hears : Hears heard front
    pub consumed : Consumes reader reader_after (front ++ rest)
    pub replied : IsPartlyWritten writer writer_after (replies heard)
