-- The definitions of pacing computed at worked values.
use Rattle.std.proofs.Common.{◌≡◌, ℕ, zero, suc, ◌+◌, List, [], ◌∷◌, ◌++◌, Some, None, refl, replicate}
use Rattle.quic_congestion.specs.Pacer.{capacity_of, new_pacing, tokens_after, gained, after_delay, delay_of, Ask, Call, asked_with, went, answer_of, pacing_after, covered_bytes}

-- a window of 2000000 bytes, a round trip of 50 ms
of_1500 : capacity_of 50000000 2000000 1500 ≡ 80000
of_1500 = refl

without_a_round_trip : capacity_of 0 2000000 1500 ≡ 384000
without_a_round_trip = refl

of_one_byte : capacity_of 50000000 1 1500 ≡ 15000
of_one_byte = refl

-- the window doubled, halved twice, as at first with datagrams of 3000 bytes, and of 20000
doubled : after_delay (new_pacing 50000000 2000000 1500 0) 50000000 0 1500 4000000 0 ≡ record { capacity = 160000; window = 4000000; size = 1500; tokens = 80000; refilled = 0 }
doubled = refl

halved : after_delay (record { capacity = 160000; window = 4000000; size = 1500; tokens = 80000; refilled = 0 }) 50000000 0 1500 1000000 0 ≡ record { capacity = 40000; window = 1000000; size = 1500; tokens = 40000; refilled = 0 }
halved = refl

larger : after_delay (record { capacity = 40000; window = 1000000; size = 1500; tokens = 40000; refilled = 0 }) 50000000 0 3000 2000000 0 ≡ record { capacity = 80000; window = 2000000; size = 3000; tokens = 40000; refilled = 0 }
larger = refl

largest : after_delay (record { capacity = 80000; window = 2000000; size = 3000; tokens = 40000; refilled = 0 }) 50000000 0 20000 2000000 0 ≡ record { capacity = 200000; window = 2000000; size = 20000; tokens = 40000; refilled = 0 }
largest = refl

-- 80 datagrams of 1000 bytes take all tokens, and then the pacer waits
burst : tokens_after 80000 (replicate 80 1000) ≡ 0
burst = refl

waits : delay_of (record { capacity = 80000; window = 2000000; size = 1000; tokens = 0; refilled = 0 }) 50000000 1000 1000 2000000 0 ≡ Some 1600000
waits = refl

half : after_delay (record { capacity = 80000; window = 2000000; size = 1000; tokens = 0; refilled = 0 }) 50000000 1000 1000 2000000 800000 ≡ record { capacity = 80000; window = 2000000; size = 1000; tokens = 40000; refilled = 800000 }
half = refl

whole : after_delay (record { capacity = 80000; window = 2000000; size = 1000; tokens = 0; refilled = 800000 }) 50000000 1000 1000 2000000 2400000 ≡ record { capacity = 80000; window = 2000000; size = 1000; tokens = 80000; refilled = 2400000 }
whole = refl

-- a round trip of 0 isn't paced
unpaced : delay_of (new_pacing 400000 30000 1500 15000) 0 1600 1500 1 0 ≡ None
unpaced = refl

-- a pacer of 80000 tokens is asked with 1000 bytes, at a moment
abbrev at : ℕ → Ask
at moment = record { rtt = 50000000; bytes = 1000; size = 1000; window = 2000000; moment = moment }

-- that, and a datagram of 1000 bytes, so many times
abbrev repeated : ℕ → ℕ → List Call
repeated zero moment = []
repeated (suc n) moment = asked_with (at moment) ∷ went 1000 ∷ repeated n moment

-- 80 datagrams of 1000 bytes go at 0, and then the pacer waits until 1600000
first : pacing_after (repeated 80 0) (new_pacing 50000000 2000000 1000 0) ≡ record { capacity = 80000; window = 2000000; size = 1000; tokens = 0; refilled = 0 }
first = refl

then_waits : answer_of (pacing_after (repeated 80 0) (new_pacing 50000000 2000000 1000 0)) (at 0) ≡ Some 1600000
then_waits = refl

-- of 81 datagrams at 0, 41 at 800000 and 81 at 2400000 each time all but the last go with their
-- tokens
bursts : covered_bytes (repeated 81 0 ++ repeated 41 800000 ++ repeated 81 2400000) (new_pacing 50000000 2000000 1000 0) ≡ 200000
bursts = refl

-- as many as the tokens at first, and those that come in 2400000
no_more : 80000 + gained 50000000 2000000 2400000 ≡ 200000
no_more = refl
