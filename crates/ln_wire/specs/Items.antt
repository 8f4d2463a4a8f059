-- What stands in a link's line, as bytes: records to save, messages with and without blanks, and events.
use Rattle.std.specs.Prelude.{ℕ, List, ◌∷◌, ◌==◌, Option, None, Result, Ok, Err, if◌then◌else◌}
use Rattle.ln_refusals.specs.declared.refusal.Refusal.{Refusal}
use Rattle.ln_refusals.specs.declared.refusal.Refusal.TheVariants as refusal
use Rattle.ln_host.specs.declared.blank.Blank.{Blank}
use Rattle.ln_host.specs.declared.blank.Blank.TheVariants as blank
use Rattle.ln_host.specs.declared.record.HeldSignatures.{HeldSignatures}
use Rattle.ln_host.specs.declared.record.PeerSecret.{PeerSecret}
use Rattle.ln_host.specs.declared.record.HostRecord.{HostRecord}
use Rattle.ln_store.specs.Format.{Format, number, fixed, sized, ◌&◌, list, optional, made, made_at}
use Rattle.ln_store.specs.Items.{role}
use Rattle.ln_wire.specs.declared.items.Item.{Item}
use Rattle.ln_wire.specs.declared.items.Item.TheVariants as item
use Rattle.ln_wire.specs.Forms.{Told, told_by, one_of, all_bytes}
use Rattle.ln_wire.specs.Questions.{view_form, closing}
use Rattle.ln_wire.specs.Events.{event_form}

abbrev pub blank_told : Blank → Told
blank_told (blank.Signatures side n point view) =
    told_by 1 (role & number 8 & fixed 33 & view_form) (side, (n, (point, view)))
blank_told (blank.Revocation secret point) = told_by 2 (number 8 & number 8) (secret, point)
blank_told (blank.Point n) = told_by 3 (number 8) n
blank_told (blank.Close terms) = told_by 4 closing terms

abbrev pub blank_at : ℕ → List ℕ → Option (Blank × List ℕ)
blank_at n bytes =
    if n == 1 then made_at (λ p. blank.Signatures p.0 p.1.0 p.1.1.0 p.1.1.1)
    (role & number 8 & fixed 33 & view_form) bytes
    else (if n == 2 then made_at (λ p. blank.Revocation p.0 p.1) (number 8 & number 8) bytes
    else (if n == 3 then made_at blank.Point (number 8) bytes
    else (if n == 4 then made_at blank.Close closing bytes else None)))

-- what is blank in a message: a byte for the kind, and its fields in their order
unfoldable pub blank_form : Format Blank
blank_form = one_of blank_told blank_at

-- the commitment's number, the signature over it, and those over its HTLCs
unfoldable pub held : Format HeldSignatures
held = made (λ p. record { number = p.0; signature = p.1.0; htlc_signatures = p.1.1 })
    (λ h. (h.number, (h.signature, h.htlc_signatures))) (number 8 & fixed 64 & list (fixed 64))

-- the commitment's number, and its secret
unfoldable pub peer_secret : Format PeerSecret
peer_secret = made (λ p. record { number = p.0; secret = p.1 }) (λ s. (s.number, s.secret)) (number 8 & fixed 32)

-- the channel's id, the peer's signatures that are held, the peer's secrets, and the record
unfoldable pub saved : Format HostRecord
saved = made (λ p. record { channel = p.0; signatures = p.1.0; secrets = p.1.1.0; record_bytes = p.1.1.1 })
    (λ r. (r.channel, (r.signatures, (r.secrets, r.record_bytes))))
    (fixed 32 & optional held & list peer_secret & sized 8)

abbrev pub item_told : Item → Told
item_told (item.Record r) = told_by 1 saved r
item_told (item.Blank b) = told_by 2 blank_form b
item_told (item.Send message) = told_by 3 all_bytes message
item_told (item.Event n e) = told_by 4 (number 8 & event_form) (n, e)
item_told (item.Closed fee) = told_by 5 (number 8) fee

abbrev pub item_at : ℕ → List ℕ → Option (Item × List ℕ)
item_at n bytes =
    if n == 1 then made_at item.Record saved bytes
    else (if n == 2 then made_at item.Blank blank_form bytes
    else (if n == 3 then made_at item.Send all_bytes bytes
    else (if n == 4 then made_at (λ p. item.Event p.0 p.1) (number 8 & event_form) bytes
    else (if n == 5 then made_at item.Closed (number 8) bytes else None))))

-- a byte for the kind, and its fields; a message takes all bytes that there are
unfoldable pub item_form : Format Item
item_form = one_of item_told item_at

-- the bytes of a kind and of a value that fits its form; another is too long
abbrev pub lent_in : {A : Type 0} → ℕ → Format A → A → Result (List ℕ) Refusal
lent_in kind f x = if f.fits x then Ok (kind ∷ f.bytes x) else Err refusal.TooLong
