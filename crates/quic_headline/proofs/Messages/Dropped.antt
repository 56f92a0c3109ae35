-- Which messages wait behind a call that gives none and sends none: those that waited before it and
-- aren't longer than fits the size that datagrams have behind it.
use Rattle.std.proofs.Common.{◌≡◌, ◌⊎◌, ℕ, ◌≤◌, Bool, true, false, List, [], ◌∷◌, Option, Some, None, inl, inr, refl, sym, ap, ◌∙◌, subst, arith}
use Rattle.std.specs.Prelude.{not, unwrap_or, if◌then◌else◌}
use Rattle.std.specs.List.{filter}
use Rattle.std.proofs.lemmas.Bool.{eq-eqb}
use Rattle.quic_config.specs.declared.mtu_discovery.TheConstants.{MAX_UDP_PAYLOAD}
use Rattle.quic_congestion.specs.Search.{Discovery, acknowledged_probe}
use Rattle.quic_congestion.specs.SearchBounds.{IsSized}
use Rattle.quic_congestion.proofs.SizedSearch.{sized_acked}
use Rattle.quic_messages.specs.Messages.{is_within}
use Rattle.quic_messages.specs.Sending.{max_size}
use Rattle.quic_streams_parts.specs.Table.{Table}
use Rattle.quic_machine.specs.declared.run.Call.{Call}
use Rattle.quic_machine.specs.declared.run.Answer.{Answer}
use Rattle.quic_machine.specs.Policy.{Policy}
use Rattle.quic_machine.specs.End.{End, with_discovery, with_closing}
use Rattle.quic_machine.specs.Tracking.{TrackedPacket}
use Rattle.quic_machine.specs.Sizes.{is_resized, after_lost, search_acked, search_lost, shortened, without_longer_if}
use Rattle.quic_machine.specs.MessageCalls.{is_on_messages, most_message}
use Rattle.quic_machine.specs.Machine.{after_call}
use Rattle.quic_machine.specs.LeaveCases.{by_event}
use Rattle.quic_machine.specs.CallCases.{is_poll, is_delivery, by_call, by_done}
use Rattle.quic_machine.specs.Receive.{Outcome}
use Rattle.quic_wire.specs.Value.{FrameValue}
use Rattle.quic_headline.specs.Runs.{Intake}
use Rattle.quic_headline.specs.Queue.{short_ones}
use Rattle.quic_machine.specs.Closing.{ticked}
use Rattle.quic_headline.proofs.Packets.Apart.{by_waits}
use Rattle.quic_headline.proofs.Packets.Sizes.{Sizing, sizing, Searching, sized_lost, same_size, expired_size}
use Rattle.quic_headline.proofs.Packets.Delivered.{Arrivals}
use Rattle.quic_headline.proofs.Packets.Ids.{IsLong, AnyNumber, KnownLong, AllSayIds}
use Rattle.quic_headline.proofs.Packets.Widths.{next_same, arrivals_size}
use Rattle.quic_headline.proofs.Channel.Messages.{AreTaken}
use Rattle.quic_headline.proofs.Held.Messages.{bound, bound_grows, longer_taken}
use Rattle.quic_headline.proofs.Sizes.Search.{IsShut, acked_fewer, acked_least, acked_size, lost_fewer, lost_least_stays, lost_falls}

-- how long a message may be at an end, where its peer takes any
abbrev pub longest_of : Sizing → Option ℕ
longest_of s = max_size s.frame s.discovery.size s.width

-- where none is longer, none is dropped
pub all_short : (o : Option ℕ) (ms : List (List ℕ)) → AreTaken (Some (unwrap_or o 0)) ms → short_ones o ms ≡ ms
all_short None ms taken = refl
all_short (Some most) ms taken = go ms taken
  where
    go : (ms : List (List ℕ)) → AreTaken (Some most) ms → filter (is_within most) ms ≡ ms
    go [] taken = refl
    go (m ∷ ms) taken = ap (λ (b : Bool). if b then m ∷ filter (is_within most) ms else filter (is_within most) ms) taken.0 ∙ ap (λ (xs : List (List ℕ)). m ∷ xs) (go ms taken.1)

-- ---- how it moves

-- The size is as it was or grew, and all messages wait that did; or it fell to the least, where no
-- probe is open, and those wait that are so short.
abbrev pub HasMoved : Sizing → Sizing → Type 0
HasMoved s t = ((s.discovery.size ≤ t.discovery.size) × (t.outgoing ≡ s.outgoing)) ⊎ ((t.discovery.size ≡ t.discovery.bursts.least) × IsShut t.discovery × (t.outgoing ≡ short_ones (longest_of t) s.outgoing))

-- so it is within a call, where the size is lawful, and what else bounds a message stays
pub record Drops (s t : Sizing) : Type 0 where
  pub frame : t.frame ≡ s.frame
  pub width : t.width ≡ s.width
  pub sized : IsSized 1200 MAX_UDP_PAYLOAD t.discovery
  pub moved : HasMoved s t

-- a size that isn't the same is no other's
resized_apart : (d f : Discovery) → is_resized d f ≡ true → f.size ≡ d.size → ⊥
resized_apart d f is same = (let clash : true ≡ false = sym is ∙ ap not (eq-eqb d.size f.size (sym same)) in cc)

-- where the size stays, that of the least too, and no other probe is open, it has moved as before
still_moved : (s t u : Sizing) → u.frame ≡ t.frame → u.width ≡ t.width → u.outgoing ≡ t.outgoing → u.discovery.size ≡ t.discovery.size → u.discovery.bursts.least ≡ t.discovery.bursts.least
    → ((n size : ℕ) → acknowledged_probe n u.discovery ≡ Some size → acknowledged_probe n t.discovery ≡ Some size) → HasMoved s t → HasMoved s u
still_moved s t u frame width same size least fewer (inl grew) = (let low = grew.0 in inl (omega (arith, low, size), same ∙ grew.1))
still_moved s t u frame width same size least fewer (inr fell) = inr (
  size ∙ fell.0 ∙ sym least,
  λ n probed is. fell.1 n probed (fewer n probed is),
  same ∙ fell.2 ∙ ap (λ (o : Option ℕ). short_ones o s.outgoing) (sym (ap (λ (n : ℕ). max_size n u.discovery.size u.width) frame ∙ ap (λ (n : ℕ). max_size t.frame n u.width) size ∙ ap (λ (n : ℕ). max_size t.frame t.discovery.size n) width)),
)

module _ (s : Sizing) where
  -- a packet is acknowledged
  acked_drops : (p : ℕ × TrackedPacket) (e : End) → Drops s (sizing e) → Drops s (sizing (search_acked p e))
  acked_drops p e i = record { frame = i.frame; width = i.width; sized = grown.0; moved = go (acknowledged_probe p.0 d) refl i.moved }
    where
      d : Discovery
      d = e.path.discovery

      t : Sizing
      t = sizing (search_acked p e)

      grown : IsSized 1200 MAX_UDP_PAYLOAD t.discovery × (d.size ≤ t.discovery.size)
      grown = sized_acked 1200 MAX_UDP_PAYLOAD p.0 p.1.size d i.sized

      go : (o : Option ℕ) → acknowledged_probe p.0 d ≡ o → HasMoved s (sizing e) → HasMoved s t
      go (Some size) is (inl grew) = (let low = grew.0 in let more = grown.1 in inl (omega (arith, low, more), grew.1))
      go (Some size) is (inr fell) = absurd (fell.1 p.0 size is)
      go None is m = still_moved s (sizing e) t refl refl refl (acked_size p.0 p.1.size d None is) (acked_least p.0 p.1.size d) (acked_fewer p.0 p.1.size d) m

  -- packets are lost
  lost_drops : (lost : Table TrackedPacket) (e : End) → Drops s (sizing e) → Drops s (sizing (search_lost lost e))
  lost_drops lost e i = go (is_resized d f) refl
    where
      d : Discovery
      d = e.path.discovery

      f : Discovery
      f = after_lost e.closing.clock lost d

      heard : End
      heard = with_discovery e f

      sized : IsSized 1200 MAX_UDP_PAYLOAD f
      sized = sized_lost 1200 MAX_UDP_PAYLOAD e.closing.clock lost d i.sized

      -- it fell, and longer messages are dropped
      fell : is_resized d f ≡ true → f.size ≡ f.bursts.least → IsShut f → e.messages.queues.outgoing ≡ s.outgoing → (o : Option ℕ) → most_message heard ≡ o → Drops s (sizing (without_longer_if o heard))
      fell is size shut same None none = record { frame = i.frame; width = i.width; sized = sized; moved = inr (size, shut, same ∙ ap (λ (o : Option ℕ). short_ones o s.outgoing) (sym none)) }
      fell is size shut same (Some most) some = record {
        frame = i.frame;
        width = i.width;
        sized = sized;
        moved = inr (size, shut, ap (λ (ms : List (List ℕ)). filter (is_within most) ms) same ∙ ap (λ (o : Option ℕ). short_ones o s.outgoing) (sym some));
      }

      -- it fell once alone
      falls : is_resized d f ≡ true → (f.size ≡ d.bursts.least) × IsShut f → HasMoved s (sizing e) → Drops s (sizing (shortened true heard))
      falls is least (inl grew) = fell is (least.0 ∙ sym (lost_least_stays e.closing.clock lost d)) least.1 grew.1 (most_message heard) refl
      falls is least (inr before) = absurd (resized_apart d f is (least.0 ∙ sym before.0))

      go : (b : Bool) → is_resized d f ≡ b → Drops s (sizing (shortened b heard))
      go true is = elim (lost_falls e.closing.clock lost d) [
        | inl same ↦ absurd (resized_apart d f is same)
        | inr least ↦ falls is least i.moved
      ]
      go false is = record {
        frame = i.frame;
        width = i.width;
        sized = sized;
        moved = still_moved s (sizing e) (sizing heard) refl refl refl (same_size d f is) (lost_least_stays e.closing.clock lost d) (lost_fewer e.closing.clock lost d) i.moved;
      }

  searching : Searching (Drops s)
  searching = record { acks = acked_drops; loses = lost_drops }

-- ---- any call that gives none and sends none

-- nothing changed
pub same_drops : (s : Sizing) → IsSized 1200 MAX_UDP_PAYLOAD s.discovery → Drops s s
same_drops s sized = record { frame = refl; width = refl; sized = sized; moved = inl (omega arith, refl) }

pub quiet_drops : (p : Policy) (e : End) (theirs : List (List ℕ)) (call : Call) (a : Answer) → is_poll call ≡ false → is_delivery call ≡ false → is_on_messages call ≡ false → KnownLong e.ids.peer → IsSized 1200 MAX_UDP_PAYLOAD e.path.discovery
    → Drops (sizing e) (sizing (after_call p e theirs call a))
quiet_drops p e theirs call a unpolled apart off known sized = by_call p e theirs (λ (x : End). Drops s (sizing x)) call a (record {
  same = same;
  on_streams = λ on answer. same;
  on_messages = λ on answer. (let clash : true ≡ false = sym on ∙ off in cc);
  pings = same;
  times = λ now expiry set. expired_size (Drops s) (searching s) p.words e now expiry same;
  closes = λ reason f now own. same;
  waits = λ now b set. by_waits (λ (x : End). Drops s (sizing x)) b (with_closing e (ticked e.closing now)) same same;
  changes_id = λ uses answer. subst (Drops s) (sym (next_same e a known)) same;
  says_handshake = λ says answer. by_done (λ (x : End). Drops s (sizing x)) e a same same;
  polls = λ now set. (let clash : true ≡ false = sym set ∙ unpolled in cc);
  hears = λ arrival d set. (let clash : true ≡ false = sym set ∙ apart in cc);
  tells = λ asks. by_event e (λ (x : End). Drops s (sizing x)) same same (λ told. same);
})
  where
    s : Sizing
    s = sizing e

    same : Drops s s
    same = same_drops s sized

-- and in each case of a delivery
pub arrivals_drop : (e : End) (now n : ℕ) (frames taken : List FrameValue) (came : Intake) → AllSayIds IsLong AnyNumber taken → KnownLong e.ids.peer → IsSized 1200 MAX_UDP_PAYLOAD e.path.discovery
    → Arrivals e now n frames taken came (λ (o : Outcome) (i : Intake). KnownLong o.end.ids.peer × Drops (sizing e) (sizing o.end))
arrivals_drop e now n frames taken came says known sized = arrivals_size (Drops (sizing e)) (searching (sizing e)) e now n frames taken came says known (same_drops (sizing e) sized)

-- those wait behind it that aren't too long
pub quiet_leaves : (s t : Sizing) → Drops s t → AreTaken (Some (bound s)) s.outgoing → t.outgoing ≡ short_ones (longest_of t) s.outgoing
quiet_leaves s t drops taken = go drops.moved
  where
    -- what bounds a message but the size is the same
    same_bound : bound t ≡ unwrap_or (max_size s.frame t.discovery.size s.width) 0
    same_bound = ap (λ (n : ℕ). unwrap_or (max_size n t.discovery.size t.width) 0) drops.frame ∙ ap (λ (n : ℕ). unwrap_or (max_size s.frame t.discovery.size n) 0) drops.width

    go : HasMoved s t → t.outgoing ≡ short_ones (longest_of t) s.outgoing
    go (inl grew) =
        let more : bound s ≤ bound t = subst (λ (n : ℕ). bound s ≤ n) (sym same_bound) (bound_grows s.frame s.discovery.size t.discovery.size s.width grew.0) in
        grew.1 ∙ sym (all_short (longest_of t) s.outgoing (longer_taken (bound s) (bound t) s.outgoing more taken))
    go (inr fell) = fell.2
