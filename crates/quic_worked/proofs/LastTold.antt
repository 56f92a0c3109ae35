-- What the last of some calls tells a controller is told it among the rest.
use Rattle.std.proofs.Common.{◌≡◌, ℕ, suc, ◌+◌, Bool, true, false, ◌||◌, List, [], ◌∷◌, ◌++◌, length, Option, sym, refl, subst, arith}
use Rattle.std.specs.List.{list_any}
use Rattle.quic_config.specs.Transport.{TransportSettings}
use Rattle.quic_congestion.specs.Congestion.{Told}
use Rattle.quic_headline.specs.Runs.{folded}
use Rattle.quic_headline.specs.Runs as of_runs
use Rattle.quic_headline.specs.Observer.{Watch, Lens, watch_told}
use Rattle.quic_headline.specs.Marking.{Marking, marking_told, marking_behind}
use Rattle.quic_headline.specs.Telling.{Tellings, first_behind, TellsCall, TellsCalls}

-- one of both is told so
pub any_left : (p : Told → Bool) (xs ys : Tellings) → list_any p xs ≡ true → list_any p (xs ++ ys) ≡ true
any_left p [] ys some = cc
any_left p (x ∷ xs) ys some = go (p x) some (any_left p xs ys)
  where
    go : (b : Bool) → (b || list_any p xs) ≡ true → (list_any p xs ≡ true → list_any p (xs ++ ys) ≡ true) → (b || list_any p (xs ++ ys)) ≡ true
    go true some rest = refl
    go false some rest = rest some

pub any_right : (p : Told → Bool) (xs ys : Tellings) → list_any p ys ≡ true → list_any p (xs ++ ys) ≡ true
any_right p [] ys some = some
any_right p (x ∷ xs) ys some = go (p x) (any_right p xs ys some)
  where
    go : (b : Bool) → list_any p (xs ++ ys) ≡ true → (b || list_any p (xs ++ ys)) ≡ true
    go true rest = refl
    go false rest = rest

-- The call behind these tells this, by what is known before it; where that has something of a kind,
-- so has all that is told.
pub record LastTold (p : Told → Bool) (l : Lens) (c : TransportSettings) (validated : ℕ → Bool) (n : ℕ) (w : Watch) (k : Marking) (ts : List of_runs.Told) (t : of_runs.Told) (told : Tellings) : Type 0 where
  pub place : ℕ
  pub behind : place ≡ n + length ts
  pub first : Option ℕ
  pub limited : Bool
  pub now : Tellings
  pub tells : TellsCall l c (validated place) first limited (folded (watch_told l) ts w) (marking_behind l ts w k) t now
  pub among : list_any p now ≡ true → list_any p told ≡ true

pub last_told : (p : Told → Bool) (l : Lens) (c : TransportSettings) (validated : ℕ → Bool) (may : ℕ → Bool → Type 0) (n : ℕ) (first : Option ℕ) (w : Watch) (k : Marking) (ts : List of_runs.Told) (t : of_runs.Told) (told : Tellings) → TellsCalls l c validated may n first w k (ts ++ t ∷ []) told → LastTold p l c validated n w k ts t told
last_told p l c validated may n first w k [] t told m = record {
  place = n;
  behind = omega arith;
  first = first;
  limited = m.0;
  now = m.1;
  tells = m.4;
  among = λ some. subst (λ (us : Tellings). list_any p us ≡ true) (sym m.6) (any_left p m.1 m.2 some);
}
last_told p l c validated may n first w k (u ∷ ts) t told m =
    let rest = last_told p l c validated may (suc n) (first_behind first (watch_told l u w)) (watch_told l u w) (marking_told l u w k) ts t m.2 m.5 in
    record {
      place = rest.place;
      behind = (let is = rest.behind in omega (arith, is));
      first = rest.first;
      limited = rest.limited;
      now = rest.now;
      tells = rest.tells;
      among = λ some. subst (λ (us : Tellings). list_any p us ≡ true) (sym m.6) (any_right p m.1 m.2 (rest.among some));
    }
