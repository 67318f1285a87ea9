-- A rate by its bytes. Assumes nothing.
use Rattle.std.specs.Prelude.{ℕ, ◌-◌, ◌%◌, ◌^◌, List, negsuc}
use Rattle.std.proofs.Common.{mod-lt, lit<, of_z, to_z}
use Rattle.std.proofs.Math.Facts.{sfits_to_z}
use Rattle.std.specs.Int.{w64}
use Rattle.values.specs.Bytes.{big, field}
use Rattle.values.specs.declared.rate.Rate.{Rate}

-- eight bytes in two's complement, which is what `of_z` and `to_z` mean
abbrev pub rate_bytes : Rate → List ℕ
rate_bytes r = big 8 (of_z w64 r.amount)

-- Every list is read as some rate, eight bytes as the rate that they write.
abbrev pub rate_parsed : List ℕ → Rate
rate_parsed bs = record {
  amount = to_z w64 (field 8 0 bs % 2 ^ 64);
  fits = (sfits_to_z {w = w64} {n = field 8 0 bs % 2 ^ 64} (record { fits = mod-lt (field 8 0 bs) (lit< tt) })).sfits;
}

-- the smallest number
abbrev pub rate_blank : Rate
rate_blank = record { amount = negsuc (2 ^ 63 - 1); fits = lit< tt }
