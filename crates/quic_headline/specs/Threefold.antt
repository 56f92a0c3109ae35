-- How much goes to an address that isn't validated: no more than three times what came (RFC 9000,
-- section 8.1).
use Rattle.std.specs.Prelude.{ℕ, ◌*◌, ◌≤◌, ◌≡◌, false}
use Rattle.quic_wire_core.specs.declared.stream_id.Side.{Side}
use Rattle.quic_headline.specs.Runs.{Run, AreServed}
use Rattle.quic_headline.specs.Allowance.{bytes_handed, bytes_given}
use Rattle.quic_headline.specs.Polls.{seen_at}

-- While an end shows the address of its peer as one that isn't validated, all datagrams that it
-- gave since it took its peer to be there have no more bytes than three times those that were handed
-- to it from there since then, that one with them by which it did, whatever was made of these.
abbrev pub Threefold : Run → Type 0
Threefold r = (side : Side) (i : ℕ) → AreServed r i → (seen_at r side i).validated ≡ false → bytes_given r side i ≤ 3 * bytes_handed r side i
