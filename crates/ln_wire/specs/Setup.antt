-- What a side opens channels with, and what a funder opens one with, as bytes (BOLT 2, "Channel Establishment v1").
use Rattle.std.specs.Prelude.{ℕ, List}
use Rattle.ln_bytes.specs.declared.record.Record.{Record}
use Rattle.ln_log.specs.declared.opening.Limits.{Limits}
use Rattle.ln_channel.specs.declared.config.Points.{Points}
use Rattle.ln_channel.specs.declared.config.Config.{Config}
use Rattle.ln_channel.specs.declared.config.OpenSpec.{OpenSpec}
use Rattle.ln_channel.specs.Config.{fees_of}
use Rattle.ln_store.specs.Format.{Format, number, fixed, sized, ◌&◌, list, made}
use Rattle.ln_store.specs.Items.{fees}
use Rattle.ln_wire.specs.declared.setup.SpecTerms.{SpecTerms}

-- htlc_minimum_msat, max_accepted_htlcs, max_htlc_value_in_flight_msat, channel_reserve_satoshis
unfoldable pub limits : Format Limits
limits = made (λ p. record { minimum = p.0; accepted = p.1.0; in_flight = p.1.1.0; reserve = p.1.1.1 })
    (λ l. (l.minimum, (l.accepted, (l.in_flight, l.reserve)))) (number 8 & number 2 & number 8 & number 8)

-- funding_pubkey, and the basepoints of revocation, payment, delayed payment and HTLCs
unfoldable pub points : Format Points
points =
    made (λ p. record {
      funding_pubkey = p.0;
      revocation_basepoint = p.1.0;
      payment_basepoint = p.1.1.0;
      delayed_payment_basepoint = p.1.1.1.0;
      htlc_basepoint = p.1.1.1.1;
    }) (λ p. (
      p.funding_pubkey,
      (
        p.revocation_basepoint,
        (
          p.payment_basepoint,
          (p.delayed_payment_basepoint, p.htlc_basepoint),
        ),
      ),
    )) (fixed 33 & fixed 33 & fixed 33 & fixed 33 & fixed 33)

-- the limits, chain_hash, dust_limit_satoshis, to_self_delay, minimum_depth, the points; the closing fee in satoshi
-- that is proposed first, the least and the greatest; the script of shutdown
unfoldable pub config : Format Config
config =
    made (λ p. record {
      limits = p.0;
      chain_hash = p.1.0;
      dust_limit = p.1.1.0;
      to_self_delay = p.1.1.1.0;
      minimum_depth = p.1.1.1.1.0;
      points = p.1.1.1.1.1.0;
      first = p.1.1.1.1.1.1.0.first;
      least = p.1.1.1.1.1.1.0.least;
      greatest = p.1.1.1.1.1.1.0.greatest;
      script = p.1.1.1.1.1.1.1;
    }) (λ c. (
      c.limits,
      (
        c.chain_hash,
        (
          c.dust_limit,
          (
            c.to_self_delay,
            (
              c.minimum_depth,
              (
                c.points,
                (fees_of c, c.script),
              ),
            ),
          ),
        ),
      ),
    ))
    (limits & fixed 32 & number 8 & number 2 & number 4 & points & fees & sized 2)

-- funding_satoshis, push_msat, feerate_per_kw, channel_flags; the temporary channel id, and the funding transaction's
-- id and output
unfoldable pub terms : Format SpecTerms
terms =
    made (λ p. record {
      funding = p.0;
      push = p.1.0;
      feerate = p.1.1.0;
      flags = p.1.1.1.0;
      temporary_id = p.1.1.1.1.0;
      txid = p.1.1.1.1.1.0;
      output = p.1.1.1.1.1.1;
    }) (λ t. (t.funding, (t.push, (t.feerate, (t.flags, (t.temporary_id, (t.txid, t.output)))))))
    (number 8 & number 8 & number 4 & number 1 & fixed 32 & fixed 32 & number 2)

-- a record of open_channel: its type and its value
unfoldable pub tlv : Format Record
tlv = made (λ p. record { typ = p.0; value = p.1 }) (λ r. (r.typ, r.value)) (number 8 & sized 2)

abbrev pub terms_of : OpenSpec → SpecTerms
terms_of s = record {
  funding = s.funding;
  push = s.push;
  feerate = s.feerate;
  flags = s.flags;
  temporary_id = s.temporary_id;
  txid = s.txid;
  output = s.output;
}

-- the config, the terms, and the records of open_channel
unfoldable pub spec : Format OpenSpec
spec =
    made (λ p. record {
      config = p.0;
      funding = p.1.0.funding;
      push = p.1.0.push;
      feerate = p.1.0.feerate;
      flags = p.1.0.flags;
      temporary_id = p.1.0.temporary_id;
      txid = p.1.0.txid;
      output = p.1.0.output;
      records = p.1.1;
    }) (λ s. (s.config, (terms_of s, s.records))) (config & terms & list tlv)
