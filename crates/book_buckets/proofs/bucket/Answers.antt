use mathlib.Core.Path.{refl}
use native.Mathlib.Omega.{arith}
use Rattle.book_buckets.specs.Buckets.{bucket_of}
use Rattle.book_buckets.proofs.Chains.{product_lt, bucket_lt}
use Rattle.book_buckets.proofs.bucket.Goals as goal

pub overflow_mul-result : goal.overflow_mul-result
overflow_mul-result c = record { fits = omega (arith, product_lt c.spread.result c.args.m c.spread.ensures.1 c.requires.0) }

pub returns : goal.returns
unfolding bucket_of
returns c = rw c.spread.ensures.0 (refl, bucket_lt c.args.key c.args.m c.requires.0)
