-- By what an end asks its peer how often to acknowledge, and what it says: an observer that counted
-- its requests reckons both alike.
use Rattle.std.proofs.Common.{◌≡◌, ℕ, suc, zero, ◌/◌, max, min, Bool, true, false, ◌||◌, ◌&&◌, List, Option, Some, None, refl, sym, ap, ◌∙◌, arith}
use Rattle.std.specs.Prelude.{◌==◌, unwrap_or}
use Rattle.std.specs.Option.{is_some, option_map}
use Rattle.std.proofs.lemmas.Bool.{ne_eqb}
use Rattle.quic_wire.specs.Value.{AckFrequencyValue}
use Rattle.quic_config.specs.Configs.{FrequencySettings, default_frequency}
use Rattle.quic_time.specs.Rtt.{Rtt, best_rtt}
use Rattle.quic_recovery_core.specs.declared.ack_frequency.Request.{Request}
use Rattle.quic_recovery_core.specs.AckFrequency.{usual_delay, least_delay, asked, differs}
use Rattle.quic_machine.specs.End.{End}
use Rattle.quic_machine.specs.Poll.{written, in_micros, request_of, most_requests, asks_anew}
use Rattle.quic_headline.specs.Observer.{Sent, Terms, Flight}
use Rattle.quic_headline.specs.Requests.{requests_in, Asking, asking_of, wanted_delay, last_delay, are_apart, asks_by, wants_anew, told_at_most, request_said}
use Rattle.quic_headline.proofs.Packets.Flying.{held, request_in, Tells}

-- ---- an end

-- By what an end asks: how it does; the number of the next request; the request that isn't
-- acknowledged; the delay to which the peer keeps; and how long a round trip takes.
pub record By : Type 0 where
  pub asking : Asking
  pub next : ℕ
  pub request : Option Request
  pub delay : ℕ
  pub rtt : Rtt

-- so it is at an end
abbrev pub by_of : End → By
by_of e = record { asking = asking_of e; next = e.frequency.next; request = e.frequency.in_flight; delay = e.frequency.peer_delay; rtt = e.path.rtt }

-- the delay that is wanted, by what is configured, and the least that the peer can be asked for
abbrev delay_wanted : FrequencySettings → Option ℕ → Rtt → ℕ → ℕ
delay_wanted s least rtt delay = max (min (unwrap_or s.max_delay delay) (max (best_rtt rtt) usual_delay)) (least_delay least)

-- whether the peer is to be asked anew, by these
abbrev anew_by : Option FrequencySettings → Option ℕ → By → Bool
anew_by None least b = false
anew_by (Some s) least b = is_some least && ((b.next == 0) || differs (delay_wanted (in_micros s) least b.rtt b.delay) (asked b.request b.delay))

-- so it is where an end asks so
abbrev pub is_anew : By → Bool
is_anew b = anew_by b.asking.settings b.asking.least b

-- an end that asks so is to ask, and its peer can be asked
pub record IsToAsk (a : Asking) : Type 0 where
  pub settings : FrequencySettings
  pub configured : a.settings ≡ Some settings
  pub least : ℕ
  pub told : a.least ≡ Some least

-- so it is where the peer is to be asked anew
pub anew_asks : (b : By) → is_anew b ≡ true → IsToAsk b.asking
anew_asks b anew = go b.asking.settings refl b.asking.least refl anew
  where
    go : (o : Option FrequencySettings) → b.asking.settings ≡ o → (l : Option ℕ) → b.asking.least ≡ l → anew_by o l b ≡ true → IsToAsk b.asking
    go None set l told asks = cc
    go (Some s) set None told asks = cc
    go (Some s) set (Some m) told asks = record { settings = s; configured = set; least = m; told = told }

-- which is what an end finds
pub anew_is : (e : End) → asks_anew e.transport.ack_frequency_config e ≡ is_anew (by_of e)
anew_is e = go e.transport.ack_frequency_config
  where
    go : (o : Option FrequencySettings) → asks_anew o e ≡ anew_by o e.peer_params.min_ack_delay (by_of e)
    go None = refl
    go (Some s) = refl

-- what a request says, by these
abbrev said_by : Option FrequencySettings → Option ℕ → ℕ → Rtt → ℕ → AckFrequencyValue
said_by o least next rtt delay =
    let s = in_micros (unwrap_or o default_frequency) in
    record {
      sequence = written next;
      threshold = written s.threshold;
      delay = written (delay_wanted s least rtt delay / 1000);
      reordering = written s.reordering;
    }

-- where an end asks so, which is `request_of` of that end
abbrev pub says : By → AckFrequencyValue
says b = said_by b.asking.settings b.asking.least b.next b.rtt b.delay

-- ---- its observer

-- the first is still to go as long as none went
none_first : (n : ℕ) → (min n most_requests == 0) ≡ (n == 0)
none_first zero = refl
none_first (suc n) = ne_eqb (min (suc n) most_requests) 0 (λ is. omega (arith, is)) ∙ sym (ne_eqb (suc n) 0 (λ is. omega (arith, is)))

-- the delay that was asked for last, as the observer knows it
last_same : (o : Option Request) (delay : ℕ) → unwrap_or (option_map (λ (request : ℕ × ℕ). request.1) (request_in o)) delay ≡ asked o delay
last_same None delay = refl
last_same (Some r) delay = refl

-- whether two delays are apart, by what the first comes of
abbrev apart_by : FrequencySettings → ℕ → Rtt → ℕ → ℕ → Bool
apart_by s m rtt delay last = are_apart (delay_wanted (in_micros s) (Some m) rtt delay) last

module _ (t : Terms) (now : ℕ) (sents : List Sent) (f : Flight) (e : End) (w : Tells t now f (held e)) (counted : e.frequency.next ≡ min (requests_in sents) most_requests) where
  -- what an end asked for last, its observer knows
  last_known : asked e.frequency.in_flight e.frequency.peer_delay ≡ last_delay f
  last_known =
      sym (last_same e.frequency.in_flight e.frequency.peer_delay)
      ∙ ap (λ (o : Option (ℕ × ℕ)). unwrap_or (option_map (λ (request : ℕ × ℕ). request.1) o) e.frequency.peer_delay) (sym w.request)
      ∙ ap (λ (d : ℕ). unwrap_or (option_map (λ (request : ℕ × ℕ). request.1) f.request) d) (sym w.delay)

  -- the observer finds when an end asks anew
  pub anew_known : is_anew (by_of e) ≡ wants_anew (asking_of e) sents f
  anew_known = go e.transport.ack_frequency_config e.peer_params.min_ack_delay
    where
      apart : (s : FrequencySettings) (m : ℕ) → apart_by s m e.path.rtt e.frequency.peer_delay (asked e.frequency.in_flight e.frequency.peer_delay) ≡ are_apart (wanted_delay s m f) (last_delay f)
      apart s m =
          ap (λ (r : Rtt). apart_by s m r e.frequency.peer_delay (asked e.frequency.in_flight e.frequency.peer_delay)) (sym w.rtt)
          ∙ ap (λ (d : ℕ). apart_by s m f.rtt d (asked e.frequency.in_flight e.frequency.peer_delay)) (sym w.delay)
          ∙ ap (λ (d : ℕ). apart_by s m f.rtt f.delay d) last_known

      first : (e.frequency.next == 0) ≡ (requests_in sents == 0)
      first = ap (λ (n : ℕ). n == 0) counted ∙ none_first (requests_in sents)

      go : (o : Option FrequencySettings) (l : Option ℕ) → anew_by o l (by_of e) ≡ asks_by o l sents f
      go None l = refl
      go (Some s) None = refl
      go (Some s) (Some m) =
          ap (λ (b : Bool). b || apart_by s m e.path.rtt e.frequency.peer_delay (asked e.frequency.in_flight e.frequency.peer_delay)) first
          ∙ ap (λ (b : Bool). (requests_in sents == 0) || b) (apart s m)

  -- and what it says then
  pub said_known : (settings : FrequencySettings) → e.transport.ack_frequency_config ≡ Some settings → (least : ℕ) → e.peer_params.min_ack_delay ≡ Some least → request_of e ≡ request_said settings least (requests_in sents) f
  said_known settings configured least told =
      ap (λ (o : Option FrequencySettings). said_by o e.peer_params.min_ack_delay e.frequency.next e.path.rtt e.frequency.peer_delay) configured
      ∙ ap (λ (o : Option ℕ). said_by (Some settings) o e.frequency.next e.path.rtt e.frequency.peer_delay) told
      ∙ ap (λ (n : ℕ). said_by (Some settings) (Some least) n e.path.rtt e.frequency.peer_delay) counted
      ∙ ap (λ (r : Rtt). said_by (Some settings) (Some least) (min (requests_in sents) most_requests) r e.frequency.peer_delay) (sym w.rtt)
      ∙ ap (λ (d : ℕ). said_by (Some settings) (Some least) (min (requests_in sents) most_requests) f.rtt d) (sym w.delay)
      ∙ ap (λ (n : ℕ). record (request_said settings least (requests_in sents) f) { sequence = n }) number
    where
      number : written (min (requests_in sents) most_requests) ≡ told_at_most (requests_in sents)
      number = omega arith
