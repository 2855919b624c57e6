-- The numbers of a sheet are the library's big-endian bytes. Assumes nothing.
use Rattle.std.proofs.Common.{◌≡◌, ℕ, ◌/◌, ◌%◌, ◌<◌, ◌^◌, w16, w32, arith}
use Rattle.std.specs.Int.{to_be_bytes}
use Rattle.layout.specs.Layout.{be16, be32}

pub be16_bytes : (n : ℕ) → n < 2 ^ 16 → to_be_bytes w16 n ≡ be16 n
be16_bytes n h = let e : n / 256 % 256 ≡ n / 256 = omega arith in rw e

pub be32_bytes : (n : ℕ) → n < 2 ^ 32 → to_be_bytes w32 n ≡ be32 n
be32_bytes n h = let e : n / 16777216 % 256 ≡ n / 16777216 = omega arith in rw e
