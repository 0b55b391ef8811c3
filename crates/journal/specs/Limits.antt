-- The limits on the pool and on a journal, which the code has as constants.
use Rattle.std.specs.Prelude.{ℕ}
use Rattle.journal.specs.declared.wire.TheConstants.{POOL_PACKETS, POOL_BYTES, LETTERS_LIMIT, BYTES_LIMIT}

-- the most packets that wait at once, and the most bytes of their bodies
abbrev pub pool_packets : ℕ
pool_packets = POOL_PACKETS

abbrev pub pool_bodies : ℕ
pool_bodies = POOL_BYTES

-- the most letters that a journal posts, and the most bytes of their bodies
abbrev pub letters_limit : ℕ
letters_limit = LETTERS_LIMIT

abbrev pub bytes_limit : ℕ
bytes_limit = BYTES_LIMIT
