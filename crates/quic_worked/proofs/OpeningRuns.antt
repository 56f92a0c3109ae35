-- A client opens streams exactly while the counts that it was told let it; and a machine that opens
-- none, though one came that does.
use Rattle.std.proofs.Common.{◌≡◌, ◌≤◌, ℕ, [], ◌∷◌, length, max, None, refl, inl, arith}
use Rattle.quic_wire_core.specs.declared.stream_id.Side.{Side}
use Rattle.quic_wire_core.specs.declared.stream_id.Side.TheVariants.{Client, Server}
use Rattle.quic_wire_core.specs.declared.stream_id.Dir.TheVariants.{Uni}
use Rattle.quic_machine.specs.declared.run.ReadCall.{ReadCall}
use Rattle.quic_headline.specs.Runs.{until}
use Rattle.quic_headline.specs.Observer.{took}
use Rattle.quic_headline.specs.Headline.{IsHonest}
use Rattle.quic_headline.specs.Amounts.{greatest}
use Rattle.quic_headline.specs.Undone.{opens}
use Rattle.quic_headline.specs.PeerLimits.{count_in, OpensWithin, OpeningIsExact}
use Rattle.quic_headline.proofs.Amounts.Opening.{opening_is_exact}
use Rattle.quic_worked.specs.Acknowledged.{client_acked}
use Rattle.quic_worked.specs.Credit.{ReadsOneWay, count_run, count_used, never_opened}
use Rattle.quic_worked.proofs.OwnIds.{AreOwn, own_ids}
use Rattle.quic_worked.proofs.WorkedKeys.{are_keys}
use Rattle.quic_worked.proofs.BoundedRun.{counts_started}
use Rattle.quic_worked.proofs.CreditRuns.{count_is_run}

-- ---- the machine's run

count_own : (read : ReadCall) → read.id ≡ 2 → (side : Side) → AreOwn side [] (count_run read).events (count_run read).answers (count_run read).views
count_own read is Client = (tt, (tt, (inl refl, (inl refl, (tt, (tt, (tt, (tt, (tt, (tt, (tt, tt)))))))))))
count_own read is Server = (tt, (tt, (tt, (tt, (tt, (tt, (tt, (inl is, (tt, (tt, (tt, tt)))))))))))

count_is_honest : (read : ReadCall) → ReadsOneWay read → IsHonest (count_run read)
count_is_honest read by = record { start = counts_started; keys = are_keys; ids = own_ids (count_run read) (count_own read by.id) }

pub opens_so : (read : ReadCall) → ReadsOneWay read → OpeningIsExact (count_run read)
opens_so read by = opening_is_exact (count_run read) count_used (count_is_honest read by) (count_is_run read by)

-- ---- a machine that goes wrong

-- two one-way streams may be opened by what came
two_came : (read : ReadCall) → greatest (count_in Uni) (took (never_opened read) Client 10) ≡ 2
unfolding client_acked
two_came read = refl

-- of which it opened one
one_opened : (read : ReadCall) → length (opens Uni (until (never_opened read) Client 10)) ≡ 1
one_opened read = refl

within_not : (first count opened : ℕ) → count ≡ 2 → opened ≡ 1 → OpensWithin opened (max first count) None → ⊥
within_not first count opened two one w = let most : max first count ≤ opened = w.none refl in omega (arith, two, one, most)

pub untaken_not : (read : ReadCall) → OpeningIsExact (never_opened read) → ⊥
untaken_not read h = within_not _ _ _ (two_came read) (one_opened read) (h counts_started Client 10 Uni None refl refl (record { event = refl; answer = refl }))

untaken_own : (read : ReadCall) → read.id ≡ 2 → (side : Side) → AreOwn side [] (never_opened read).events (never_opened read).answers (never_opened read).views
untaken_own read is Client = (tt, (tt, (inl refl, (inl refl, (tt, (tt, (tt, (tt, (tt, (tt, (tt, tt)))))))))))
untaken_own read is Server = (tt, (tt, (tt, (tt, (tt, (tt, (tt, (inl is, (tt, (tt, (tt, tt)))))))))))

pub untaken_is_honest : (read : ReadCall) → ReadsOneWay read → IsHonest (never_opened read)
untaken_is_honest read by = record { start = counts_started; keys = are_keys; ids = own_ids (never_opened read) (untaken_own read by.id) }
