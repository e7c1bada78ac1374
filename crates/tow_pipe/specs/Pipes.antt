-- What a pipe holds after its bytes were looked at.
use Rattle.std.specs.Prelude.{ℕ, List, length}
use Rattle.std.specs.Borrow.{Fml, MutBor, Array, Lends, u8}
use Rattle.std.specs.List.{refill}
use Rattle.circular_buffer.specs.Buffer.{Buffer, buffer}
use Rattle.tow_pipe.specs.contracts.pipe.Pipe.{the_row}

-- the bytes end as the last ones written through r
abbrev pub Shows : MutBor (Buffer ℕ) → MutBor (List ℕ) → Fml
Shows p r = Lends the_row (Array u8 0) p r (λ ws. buffer (refill (length p.now.items) p.now.items ws) p.now.capacity)
