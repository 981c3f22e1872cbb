-- Serial numbers of 32 bits on a ring: the order of RFC 1982, as it gives it for two numbers of such a field. RFC 1982 is not among the papers, so its rule
-- stands here in words of its own. Assumes nothing.
use Rattle.std.specs.Prelude.{ℕ, ◌-◌, ◌^◌, Bool, ◌&&◌, ◌||◌, ltb}

-- The first is less than the second on the ring: as a plain number it is less, by under half the ring; or it is greater, by over half the ring. Two numbers
-- exactly half the ring apart have no order in RFC 1982: here neither is less.
unfoldable pub ring_less : ℕ → ℕ → Bool
ring_less i j = (ltb i j && ltb (j - i) (2 ^ 31)) || (ltb j i && ltb (2 ^ 31) (i - j))
