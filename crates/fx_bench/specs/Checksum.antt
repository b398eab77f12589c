-- Checksums of 64 bits.
use Rattle.std.specs.Prelude.{ℕ, ◌+◌, ◌*◌, ◌%◌, ◌^◌}

-- a checksum, and a number behind it
abbrev pub mixed : ℕ → ℕ → ℕ
mixed sum number = (sum * 31 % 2 ^ 64 + number) % 2 ^ 64
