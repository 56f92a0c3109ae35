-- The window that an observer reckons for NewReno is the one that it shows.
use Rattle.std.proofs.Common.{◌≡◌, ℕ, ◌-◌, ◌*◌, Bool, true, false, not, ◌&&◌, ◌||◌, [], ◌∷◌, refl, sym, ap, ◌∙◌}
use Rattle.std.specs.Prelude.{nat_le, nat_lt, if◌then◌else◌}
use Rattle.std.proofs.Math.Bool.{not-not}
use Rattle.quic_congestion.specs.Congestion.{after_call, after_calls}
use Rattle.quic_congestion.specs.Congestion as congestion
use Rattle.quic_congestion.specs.NewReno.{RenoSettings, Reno, reno_made, bytes_sum, is_past, grown, recounted, raised, recovering, collapsed, reno_steps}
use Rattle.quic_headline.specs.Runs.{Run}
use Rattle.quic_headline.specs.Telling.{Tellings, ControllersAreTold}
use Rattle.quic_headline.specs.Reno.{Window, grown_by, grown_slowly, window_acked, left_of, window_lost, window_told, window_behind, RenoWindows}
use Rattle.quic_headline.proofs.Marking.Judged.{le_turned}

-- what an observer knows of a NewReno
abbrev pub seen : Reno → Window
seen r = record { bytes = r.window; threshold = r.threshold; recovery = r.recovery; counted = r.counted; size = r.size }

abbrev pub part_of : RenoSettings → ℕ × ℕ
part_of s = (s.numerator, s.denominator)

-- a moment lies behind another, or isn't past
not_past : (a b : ℕ) → nat_lt a b ≡ not (nat_le b a)
not_past a b = sym (ap not (le_turned b a) ∙ not-not (nat_lt a b))

-- bytes that count
raised_same : (r : Reno) (bytes : ℕ) → (if nat_lt r.window r.threshold then grown_by (seen r) bytes else grown_slowly (seen r) bytes) ≡ seen (raised r bytes)
raised_same r bytes = go (nat_lt r.window r.threshold) (nat_le r.window (bytes_sum r.counted bytes))
  where
    go : (b c : Bool)
        → (if b then grown_by (seen r) bytes
        else (if c then record (seen r) { bytes = bytes_sum r.window r.size; counted = bytes_sum r.counted bytes - r.window } else record (seen r) { counted = bytes_sum r.counted bytes }))
        ≡ seen (if b then record r {
          window = bytes_sum r.window bytes;
          counted = if nat_le r.threshold (bytes_sum r.window bytes) then bytes_sum r.window bytes - r.threshold else r.counted;
        } else (if c then record r { counted = bytes_sum r.counted bytes - r.window; window = bytes_sum r.window r.size } else record r { counted = bytes_sum r.counted bytes }))
    go true c = refl
    go false true = refl
    go false false = refl

acked_same : (r : Reno) (sent bytes : ℕ) (limited : Bool) → window_acked sent bytes limited (seen r) ≡ seen (if limited || is_past r sent then r else raised r bytes)
acked_same r sent bytes limited =
    ap (λ (b : Bool). if b && not limited then more else seen r) (not_past r.recovery sent)
    ∙ go limited (nat_le sent r.recovery)
  where
    more : Window
    more = if nat_lt r.window r.threshold then grown_by (seen r) bytes else grown_slowly (seen r) bytes

    go : (limited past : Bool) → (if not past && not limited then more else seen r) ≡ seen (if limited || past then r else raised r bytes)
    go true true = refl
    go true false = refl
    go false true = refl
    go false false = raised_same r bytes

lost_same : (r : Reno) (now sent : ℕ) (persists : Bool) → window_lost (part_of r.settings) now sent persists (seen r) ≡ seen (if is_past r sent then r else (if persists then collapsed (recovering r now) else recovering r now))
lost_same r now sent persists =
    ap (λ (b : Bool). if b then record (seen r) { bytes = if persists then 2 * r.size else left_of (part_of r.settings) (seen r); threshold = left_of (part_of r.settings) (seen r); recovery = now } else seen r) (not_past r.recovery sent)
    ∙ go (nat_le sent r.recovery) persists
  where
    go : (past persists : Bool)
        → (if not past then record (seen r) { bytes = if persists then 2 * r.size else left_of (part_of r.settings) (seen r); threshold = left_of (part_of r.settings) (seen r); recovery = now } else seen r)
        ≡ seen (if past then r else (if persists then collapsed (recovering r now) else recovering r now))
    go true persists = refl
    go false true = refl
    go false false = refl

-- one thing that it is told
step_same : (t : congestion.Told) (r : Reno) → window_told (part_of r.settings) t (seen r) ≡ seen (after_call reno_steps t r)
step_same (congestion.Sent now bytes last) r = refl
step_same (congestion.Acked now sent bytes limited rtt) r = acked_same r sent bytes limited
step_same (congestion.AcksEnded now in_flight limited largest) r = refl
step_same (congestion.Congested now sent persists lost) r = lost_same r now sent persists
step_same (congestion.Resized size) r = refl

-- its settings stay
either : (s : RenoSettings) (b : Bool) (x y : Reno) → x.settings ≡ s → y.settings ≡ s → (if b then x else y).settings ≡ s
either s true x y h k = h
either s false x y h k = k

recounted_stay : (r : Reno) (counted : ℕ) → (recounted r counted).settings ≡ r.settings
recounted_stay r counted = either r.settings (nat_le r.window counted) (record r { counted = counted - r.window; window = bytes_sum r.window r.size }) (record r { counted = counted }) refl refl

raised_stay : (r : Reno) (bytes : ℕ) → (raised r bytes).settings ≡ r.settings
raised_stay r bytes = either r.settings (nat_lt r.window r.threshold) (grown r (bytes_sum r.window bytes)) (recounted r (bytes_sum r.counted bytes)) refl (recounted_stay r (bytes_sum r.counted bytes))

settings_stay : (t : congestion.Told) (r : Reno) → (after_call reno_steps t r).settings ≡ r.settings
settings_stay (congestion.Sent now bytes last) r = refl
settings_stay (congestion.Acked now sent bytes limited rtt) r = either r.settings (limited || is_past r sent) r (raised r bytes) refl (raised_stay r bytes)
settings_stay (congestion.AcksEnded now in_flight limited largest) r = refl
settings_stay (congestion.Congested now sent persists lost) r =
    either r.settings (is_past r sent) r (if persists then collapsed (recovering r now) else recovering r now) refl (either r.settings persists (collapsed (recovering r now)) (recovering r now) refl refl)
settings_stay (congestion.Resized size) r = refl

-- one behind another
pub window_same : (told : Tellings) (r : Reno) → window_behind (part_of r.settings) told (seen r) ≡ seen (after_calls reno_steps r told)
window_same [] r = refl
window_same (t ∷ ts) r =
    ap (λ (w : Window). window_behind (part_of r.settings) ts w) (step_same t r)
    ∙ ap (λ (s : RenoSettings). window_behind (part_of s) ts (seen (after_call reno_steps t r))) (sym (settings_stay t r))
    ∙ window_same ts (after_call reno_steps t r)

-- so views show it, where controllers are told what the lists say
pub reno_windows : (r : Run) → ControllersAreTold r → RenoWindows r
reno_windows r tells side s now size is i v served there =
    let all = tells side i v served there in
    (all.0, all.1, all.2 ∙ is all.0 ∙ sym (ap (λ (w : Window). w.bytes) (window_same all.0 (reno_made s now size))), all.3)
