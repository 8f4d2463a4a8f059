-- What a commitment and a closing transaction are worth, and what a host is asked, as bytes.
use Rattle.std.specs.Prelude.{ℕ, List, ◌==◌, Option, None, if◌then◌else◌}
use Rattle.ln_keys.specs.declared.view.Htlc.{Htlc}
use Rattle.ln_keys.specs.declared.view.View.{View}
use Rattle.ln_host.specs.declared.blank.ClosingTerms.{ClosingTerms}
use Rattle.ln_host.specs.declared.question.Question.{Question}
use Rattle.ln_host.specs.declared.question.Question.TheVariants as question
use Rattle.ln_store.specs.Format.{Format, number, fixed, sized, ◌&◌, list, made, made_at}
use Rattle.ln_store.specs.Items.{role}
use Rattle.ln_wire.specs.Forms.{Told, told_by, one_of}

-- who offered it, its id, amount_msat, payment_hash, cltv_expiry
unfoldable pub htlc : Format Htlc
htlc = made (λ p. record { owner = p.0; id = p.1.0; amount = p.1.1.0; hash = p.1.1.1.0; expiry = p.1.1.1.1 })
    (λ h. (h.owner, (h.id, (h.amount, (h.hash, h.expiry))))) (role & number 8 & number 8 & fixed 32 & number 4)

-- the balances of the funder and of the fundee in millisatoshi, feerate_per_kw, and the HTLCs
unfoldable pub view_form : Format View
view_form = made (λ p. record { funder = p.0; fundee = p.1.0; feerate = p.1.1.0; htlcs = p.1.1.1 })
    (λ v. (v.funder, (v.fundee, (v.feerate, v.htlcs)))) (number 8 & number 8 & number 4 & list htlc)

-- the own side, the fee in satoshi; the own balance and the peer's in millisatoshi; the own script and the peer's
unfoldable pub closing : Format ClosingTerms
closing =
    made (λ p. record {
      role = p.0;
      fee_satoshis = p.1.0;
      own_msat = p.1.1.0;
      peer_msat = p.1.1.1.0;
      own_script = p.1.1.1.1.0;
      peer_script = p.1.1.1.1.1;
    }) (λ c. (c.role, (c.fee_satoshis, (c.own_msat, (c.peer_msat, (c.own_script, c.peer_script))))))
    (role & number 8 & number 8 & number 8 & sized 2 & sized 2)

abbrev pub question_told : Question → Told
question_told (question.New channel) = told_by 5 (fixed 32) channel
question_told (question.First channel view) = told_by 6 (fixed 32 & view_form) (channel, view)
question_told (question.Signatures side n view) = told_by 1 (role & number 8 & view_form) (side, (n, view))
question_told (question.Secret n point) = told_by 2 (number 8 & fixed 33) (n, point)
question_told (question.Close terms) = told_by 3 closing terms
question_told (question.OwnSecret n) = told_by 4 (number 8) n

abbrev pub question_at : ℕ → List ℕ → Option (Question × List ℕ)
question_at n bytes =
    if n == 1 then made_at (λ p. question.Signatures p.0 p.1.0 p.1.1) (role & number 8 & view_form) bytes
    else (if n == 2 then made_at (λ p. question.Secret p.0 p.1) (number 8 & fixed 33) bytes
    else (if n == 3 then made_at question.Close closing bytes
    else (if n == 4 then made_at question.OwnSecret (number 8) bytes
    else (if n == 5 then made_at question.New (fixed 32) bytes
    else (if n == 6 then made_at (λ p. question.First p.0 p.1) (fixed 32 & view_form) bytes else None)))))

-- a byte for the kind, and its fields in their order
unfoldable pub question_form : Format Question
question_form = one_of question_told question_at
