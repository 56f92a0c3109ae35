-- What each call of a controller leaves of the sizes of datagrams at an end.
use Rattle.std.proofs.Common.{◌≡◌, ℕ, ◌≤◌, sym, subst}
use Rattle.quic_congestion.specs.Congestion.{HasRoom, KeepsRoom}
use Rattle.quic_congestion.specs.Search.{Discovery}
use Rattle.quic_congestion.specs.SearchBounds.{IsSized}
use Rattle.quic_connection_parts.specs.Telling.{IsTold, AreSizes}

-- it leaves room for two datagrams
pub stays_sized : {C : Type 0} (size_of window_of : C → ℕ) (old new : C) (limit : ℕ) (d : Discovery) (window : ℕ) → KeepsRoom size_of window_of old new → AreSizes size_of window_of limit d old window → AreSizes size_of window_of limit d new window
stays_sized size_of window_of old new limit d window keeps sizes = record {
  sized = sizes.sized;
  told = record { size = subst (λ (n : ℕ). d.size ≤ n) (sym keeps.size_stays) sizes.told.size; room = keeps.room_stays sizes.told.room };
  window = sizes.window;
}

-- what the search comes to leaves it, where the controller is told of a size that changed
pub sized_told : {C : Type 0} (size_of window_of : C → ℕ) (old new : C) (limit : ℕ) (d f : Discovery) (window : ℕ) → IsSized 1200 limit f
    → (d.size ≤ size_of old → HasRoom (size_of old) (window_of old) → IsTold size_of window_of f.size new) → AreSizes size_of window_of limit d old window → AreSizes size_of window_of limit f new window
sized_told size_of window_of old new limit d f window sized tells sizes = record { sized = sized; told = tells sizes.told.size sizes.told.room; window = sizes.window }

-- so it does where the size stays
pub sized_still : {C : Type 0} (size_of window_of : C → ℕ) (c : C) (limit : ℕ) (d f : Discovery) (window : ℕ) → IsSized 1200 limit f → f.size ≡ d.size → AreSizes size_of window_of limit d c window → AreSizes size_of window_of limit f c window
sized_still size_of window_of c limit d f window sized same sizes = record {
  sized = sized;
  told = record { size = subst (λ (n : ℕ). n ≤ size_of c) (sym same) sizes.told.size; room = sizes.told.room };
  window = sizes.window;
}
