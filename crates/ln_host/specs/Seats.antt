-- A hosted link as its calls are told.
use Rattle.std.specs.Prelude.{◌≡◌, ◌≢◌, ◌⊎◌, Some, Result, Ok, Err, replicate}
use Rattle.ln_refusals.specs.declared.refusal.Refusal.{Refusal}
use Rattle.ln_refusals.specs.declared.refusal.Refusal.TheVariants as refusal
use Rattle.ln_channel.specs.State.{State, kept_channel}
use Rattle.ln_link.specs.Loading.{Loads}
use Rattle.ln_store.specs.Record.{record_at}
use Rattle.ln_host.specs.declared.host_link.HostLink.{HostLink}
use Rattle.ln_host.specs.declared.keys.HostKeys.{HostKeys}
use Rattle.ln_host.specs.declared.record.HostRecord.{HostRecord}
use Rattle.ln_host.specs.Hosted.{Seat, keys_with, loaded}

abbrev pub seat : HostLink → Seat
seat h = record {
  link = h.link;
  first_point = h.first_point;
  records = h.store;
  taken = h.taken;
  signatures = h.signatures;
  secrets = h.secrets.items;
  line = h.line;
  is_shown = h.is_shown;
}

-- ---- a link that comes back

-- what the bytes of a record tell, for a host that has told nothing yet
abbrev pub Tells : HostRecord → Result (State HostKeys) Refusal → Type 0
Tells r answer = Loads (keys_with (replicate 33 0)) (record_at r.record_bytes) answer

-- the record tells the link, of the channel under whose id it was saved
pub record ComesBack (r : HostRecord) (s : Seat) : Type 0 where
  pub told : Tells r (Ok s.link)
  pub channel : kept_channel s.link.stage ≡ Some r.channel
  pub seat : s ≡ loaded s.link r

-- it is another channel's
pub record IsOfAnother (r : HostRecord) : Type 0 where
  pub link : State HostKeys
  pub told : Tells r (Ok link)
  pub channel : kept_channel link.stage ≢ Some r.channel

-- no memory, what the bytes are refused by, or 70 to another channel's record
abbrev pub IsRefusedRecord : HostRecord → Refusal → Type 0
IsRefusedRecord r e = (e ≡ refusal.Memory) ⊎ (Tells r (Err e) ⊎ ((e ≡ refusal.Damaged) × IsOfAnother r))
