-- What holds of the two ends of a run, concern by concern: a group says what one gives and the
-- other takes, and stays by any call.
use Rattle.std.specs.Prelude.{ℕ, ◌≡◌, false, Some}
use Rattle.quic_machine.specs.declared.run.Call.{Call}
use Rattle.quic_machine.specs.declared.run.Answer.{Answer}
use Rattle.quic_machine.specs.Machine.{IsAnswer, fails}
use Rattle.quic_headline.specs.Runs.{In, ids_of}
use Rattle.quic_headline.specs.Headline.{used, CodeIsSmall}
use Rattle.quic_headline.proofs.Places.Parties.{Party, called, showing, AreJoined, turned, Beginning, begun_as, AreMade, Shown}

-- what is said of one that gives and one that takes
abbrev pub Way : Type 1
Way = Party → Party → Type 0

-- nothing
abbrev pub Nothing : Way
Nothing x y = Unit {0}

-- both
abbrev pub And : Way → Way → Way
And G H x y = G x y × H x y

-- An end makes a call at a place; this holds both ways before it and behind it.
pub record Calls (B : Way) (x y : Party) (call : Call) (a : Answer) : Type 0 where
  pub joined : AreJoined x y
  pub answer : IsAnswer x.policy x.end y.given call a
  pub served : fails a ≡ false
  -- applications use ids that were opened or accepted at their end
  pub uses : (id : ℕ) → used call ≡ Some id → In id (ids_of x.told)
  pub codes : CodeIsSmall call
  pub joined_behind : AreJoined (called x y.given call a) y
  pub gives : B x y
  pub takes : B y x
  pub gives_behind : B (called x y.given call a) y
  pub takes_behind : B y (called x y.given call a)

-- G holds at the start and stays, over what B says: where the end that calls gives, where it takes,
-- whichever windows both ends read, and whichever pacers they have behind a call.
pub record Group (B G : Way) : Type 0 where
  pub first : (x y : Beginning) → AreMade x y → B (begun_as x y) (begun_as y x) → B (begun_as y x) (begun_as x y) → G (begun_as x y) (begun_as y x)
  pub writer : (x y : Party) (call : Call) (a : Answer) → Calls B x y call a → G x y → G y x → G (called x y.given call a) y
  pub reader : (x y : Party) (call : Call) (a : Answer) → Calls B x y call a → G x y → G y x → G y (called x y.given call a)
  pub shows : (x y : Party) (here there : Shown) → B (showing x here) (showing y there) → B (showing y there) (showing x here) → G x y → G y x → G (showing x here) (showing y there)

-- a call behind which another group holds too
further : (B G : Way) → Group B G → (x y : Party) (call : Call) (a : Answer) → Calls B x y call a → G x y → G y x → Calls (And B G) x y call a
further B G g x y call a c gives takes = record {
  joined = c.joined;
  answer = c.answer;
  served = c.served;
  uses = c.uses;
  codes = c.codes;
  joined_behind = c.joined_behind;
  gives = (c.gives, gives);
  takes = (c.takes, takes);
  gives_behind = (c.gives_behind, g.writer x y call a c gives takes);
  takes_behind = (c.takes_behind, g.reader x y call a c gives takes);
}

-- those that begin, told of the other first
pub turned_makings : (x y : Beginning) → AreMade x y → AreMade y x
turned_makings x y m = record { x_is = m.y_is; y_is = m.x_is; joined = turned (begun_as x y) (begun_as y x) m.joined }

-- a group, and another over it, are one
pub both : (B G H : Way) → Group B G → Group (And B G) H → Group B (And G H)
both B G H g h = record {
  first = λ x y m there back.
      let gives = g.first x y m there back in
      let takes = g.first y x (turned_makings x y m) back there in
      (gives, h.first x y m (there, gives) (back, takes));
  writer = λ x y call a c gives takes. (g.writer x y call a c gives.0 takes.0, h.writer x y call a (further B G g x y call a c gives.0 takes.0) gives.1 takes.1);
  reader = λ x y call a c gives takes. (g.reader x y call a c gives.0 takes.0, h.reader x y call a (further B G g x y call a c gives.0 takes.0) gives.1 takes.1);
  shows = λ x y here there b back gives takes.
      let shown = g.shows x y here there b back gives.0 takes.0 in
      let others = g.shows y x there here back b takes.0 gives.0 in
      (shown, h.shows x y here there (b, shown) (back, others) gives.1 takes.1);
}

-- groups that say nothing of one another are one
pub beside : (B G H : Way) → Group B G → Group B H → Group B (And G H)
beside B G H g h = record {
  first = λ x y m there back. (g.first x y m there back, h.first x y m there back);
  writer = λ x y call a c gives takes. (g.writer x y call a c gives.0 takes.0, h.writer x y call a c gives.1 takes.1);
  reader = λ x y call a c gives takes. (g.reader x y call a c gives.0 takes.0, h.reader x y call a c gives.1 takes.1);
  shows = λ x y here there b back gives takes. (g.shows x y here there b back gives.0 takes.0, h.shows x y here there b back gives.1 takes.1);
}

-- a call where less is said
pub less_calls : (C B : Way) → ((x y : Party) → C x y → B x y) → (x y : Party) (call : Call) (a : Answer) → Calls C x y call a → Calls B x y call a
less_calls C B less x y call a c = record {
  joined = c.joined;
  answer = c.answer;
  served = c.served;
  uses = c.uses;
  codes = c.codes;
  joined_behind = c.joined_behind;
  gives = less x y c.gives;
  takes = less y x c.takes;
  gives_behind = less (called x y.given call a) y c.gives_behind;
  takes_behind = less y (called x y.given call a) c.takes_behind;
}

-- a group stands over whatever says more
pub over : (B C G : Way) → ((x y : Party) → C x y → B x y) → Group B G → Group C G
over B C G less g = record {
  first = λ x y m there back. g.first x y m (less (begun_as x y) (begun_as y x) there) (less (begun_as y x) (begun_as x y) back);
  writer = λ x y call a c gives takes. g.writer x y call a (less_calls C B less x y call a c) gives takes;
  reader = λ x y call a c gives takes. g.reader x y call a (less_calls C B less x y call a c) gives takes;
  shows = λ x y here there b back gives takes. g.shows x y here there (less (showing x here) (showing y there) b) (less (showing y there) (showing x here) back) gives takes;
}

-- ---- groups that rest on one another

-- An end makes a call at a place; this holds both ways before it.
pub record Before (B : Way) (x y : Party) (call : Call) (a : Answer) : Type 0 where
  pub joined : AreJoined x y
  pub answer : IsAnswer x.policy x.end y.given call a
  pub served : fails a ≡ false
  pub uses : (id : ℕ) → used call ≡ Some id → In id (ids_of x.told)
  pub codes : CodeIsSmall call
  pub joined_behind : AreJoined (called x y.given call a) y
  pub gives : B x y
  pub takes : B y x

-- G holds at the start, whatever else does, a call keeps it where B holds before, and it stays
-- whichever windows both ends read.
pub record Early (B G : Way) : Type 0 where
  pub first : (x y : Beginning) → AreMade x y → G (begun_as x y) (begun_as y x)
  pub writer : (x y : Party) (call : Call) (a : Answer) → Before B x y call a → G x y → G y x → G (called x y.given call a) y
  pub reader : (x y : Party) (call : Call) (a : Answer) → Before B x y call a → G x y → G y x → G y (called x y.given call a)
  pub shows : (x y : Party) (here there : Shown) → G x y → G (showing x here) (showing y there)

-- what holds before a call, said less
less_before : (B C : Way) → ((x y : Party) → C x y → B x y) → (x y : Party) (call : Call) (a : Answer) → Before C x y call a → Before B x y call a
less_before B C less x y call a c = record {
  joined = c.joined;
  answer = c.answer;
  served = c.served;
  uses = c.uses;
  codes = c.codes;
  joined_behind = c.joined_behind;
  gives = less x y c.gives;
  takes = less y x c.takes;
}

-- such a group stands over whatever says more
pub early_over : (B C G : Way) → ((x y : Party) → C x y → B x y) → Early B G → Early C G
early_over B C G less g = record {
  first = g.first;
  writer = λ x y call a c gives takes. g.writer x y call a (less_before B C less x y call a c) gives takes;
  reader = λ x y call a c gives takes. g.reader x y call a (less_before B C less x y call a c) gives takes;
  shows = g.shows;
}

-- two are one, each of which may rest on what the other says before a call
pub early_both : (B G H : Way) → Early (And B H) G → Early (And B G) H → Early B (And G H)
early_both B G H g h = record {
  first = λ x y m. (g.first x y m, h.first x y m);
  writer = λ x y call a c gives takes. (g.writer x y call a (beside_before H x y call a c gives.1 takes.1) gives.0 takes.0, h.writer x y call a (beside_before G x y call a c gives.0 takes.0) gives.1 takes.1);
  reader = λ x y call a c gives takes. (g.reader x y call a (beside_before H x y call a c gives.1 takes.1) gives.0 takes.0, h.reader x y call a (beside_before G x y call a c gives.0 takes.0) gives.1 takes.1);
  shows = λ x y here there holds. (g.shows x y here there holds.0, h.shows x y here there holds.1);
}
  where
    beside_before : (K : Way) (x y : Party) (call : Call) (a : Answer) → Before B x y call a → K x y → K y x → Before (And B K) x y call a
    beside_before K x y call a c gives takes = record {
      joined = c.joined;
      answer = c.answer;
      served = c.served;
      uses = c.uses;
      codes = c.codes;
      joined_behind = c.joined_behind;
      gives = (c.gives, gives);
      takes = (c.takes, takes);
    }

-- it is a group
pub early_group : (B G : Way) → Early B G → Group B G
early_group B G g = record {
  first = λ x y m there back. g.first x y m;
  writer = λ x y call a c gives takes. g.writer x y call a (record { joined = c.joined; answer = c.answer; served = c.served; uses = c.uses; codes = c.codes; joined_behind = c.joined_behind; gives = c.gives; takes = c.takes }) gives takes;
  reader = λ x y call a c gives takes. g.reader x y call a (record { joined = c.joined; answer = c.answer; served = c.served; uses = c.uses; codes = c.codes; joined_behind = c.joined_behind; gives = c.gives; takes = c.takes }) gives takes;
  shows = λ x y here there b back gives takes. g.shows x y here there gives;
}

-- such a group rests on H, and H on it: they are one
pub knot : (B G H : Way) → Early (And B H) G → Group (And B G) H → Group B (And G H)
knot B G H g h = record {
  first = λ x y m there back.
      let gives = g.first x y m in
      let takes = g.first y x (turned_makings x y m) in
      (gives, h.first x y m (there, gives) (back, takes));
  writer = λ x y call a c gives takes. (g.writer x y call a (early x y call a c gives.1 takes.1) gives.0 takes.0, h.writer x y call a (late x y call a c gives takes) gives.1 takes.1);
  reader = λ x y call a c gives takes. (g.reader x y call a (early x y call a c gives.1 takes.1) gives.0 takes.0, h.reader x y call a (late x y call a c gives takes) gives.1 takes.1);
  shows = λ x y here there b back gives takes.
      let shown = g.shows x y here there gives.0 in
      let others = g.shows y x there here takes.0 in
      (shown, h.shows x y here there (b, shown) (back, others) gives.1 takes.1);
}
  where
    early : (x y : Party) (call : Call) (a : Answer) → Calls B x y call a → H x y → H y x → Before (And B H) x y call a
    early x y call a c gives takes = record {
      joined = c.joined;
      answer = c.answer;
      served = c.served;
      uses = c.uses;
      codes = c.codes;
      joined_behind = c.joined_behind;
      gives = (c.gives, gives);
      takes = (c.takes, takes);
    }

    late : (x y : Party) (call : Call) (a : Answer) → Calls B x y call a → And G H x y → And G H y x → Calls (And B G) x y call a
    late x y call a c gives takes = record {
      joined = c.joined;
      answer = c.answer;
      served = c.served;
      uses = c.uses;
      codes = c.codes;
      joined_behind = c.joined_behind;
      gives = (c.gives, gives.0);
      takes = (c.takes, takes.0);
      gives_behind = (c.gives_behind, g.writer x y call a (early x y call a c gives.1 takes.1) gives.0 takes.0);
      takes_behind = (c.takes_behind, g.reader x y call a (early x y call a c gives.1 takes.1) gives.0 takes.0);
    }
