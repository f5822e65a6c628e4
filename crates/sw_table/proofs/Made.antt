-- What a new Table is made of.
use Rattle.std.proofs.Common.{◌≡◌, ℕ, zero, suc, ◌+◌, ◌*◌, ◌/◌, ◌^◌, ◌<◌, ◌≤◌, Bool, true, false, List, [], ◌∷◌, ◌++◌, length, replicate, Option, Some, None, refl, ap, sym, ◌∙◌, subst, arith, pow-suc}
use Rattle.std.specs.Prelude.{nat_le, nat_lt}
use Rattle.std.proofs.Math.Pow.{pow_mono}
use Rattle.std.proofs.Math.Nat.{mul-le-mul_left, div-le_of_le-mul}
use Rattle.std.proofs.lemmas.Bool.Decides.{nat_tests}
use Rattle.std.proofs.lemmas.List.{length-replicate}
use Rattle.sw_column.specs.declared.column.Column.{Column}
use Rattle.sw_column.specs.Columns.{IsSchema}
use Rattle.sw_table_laws.specs.Sizes.{raised}
use Rattle.sw_table_laws.specs.Laws.{IsRaised}
use Rattle.sw_table_laws.specs.Buckets.{BucketNow, PoolNow}
use Rattle.sw_table_laws.proofs.RaisedLaws.{size_is_raised}
use Rattle.sw_rowlock.specs.declared.calls.Contents.{Contents}
use Rattle.sw_rowlock.specs.Calls.{contents}
use Rattle.sw_rowlock.specs.Seats.{LocksNow}
use Rattle.sw_table_join.specs.Calls.{empty_bucket, IsEmptyTable}
use Rattle.sw_table_join.specs.Tables.{IsShared}

-- a power of two below 2^20 is 2^19 at most
power_by : (b : Bool) (k size : ℕ) → nat_le k 19 ≡ b → size ≡ 2 ^ k → size < 1048576 → size ≤ 524288
power_by true k size is e lt =
    let le : k ≤ 19 = grind (arith, nat_tests) in
    let mono : 2 ^ k ≤ 2 ^ 19 = pow_mono {i = k} {j = 19} le in
    omega (arith, e, mono)
power_by false k size is e lt =
    let le : 20 ≤ k = grind (arith, nat_tests) in
    let mono : 2 ^ 20 ≤ 2 ^ k = pow_mono {i = 20} {j = k} le in
    absurd (omega (arith, e, mono, lt))

few_by : (b : Bool) (n size : ℕ) → nat_lt 64 size ≡ b → n ≤ 524288 → IsRaised n size → size ≤ 524288
few_by true n size is le r =
    let lt : 64 < size = grind (arith, nat_tests) in
    let tight = r.tight lt in
    power_by (nat_le r.power.0 19) r.power.0 size refl r.power.1 (omega (arith, tight, le))
few_by false n size is le r = let small : size ≤ 64 = grind (arith, nat_tests) in omega (arith, small)

-- the size of a Table that is asked to have few buckets
pub raised_few : (n : ℕ) → n ≤ 524288 → raised n ≤ 524288
raised_few n le = few_by (nat_lt 64 (raised n)) n (raised n) refl le (size_is_raised n le)

-- ---- a size that was raised stays

-- two powers of two, of which one is neither below the other nor twice as much
same_by : (a b : Bool) (j k : ℕ) → nat_le j k ≡ a → nat_le k j ≡ b → 2 ^ k ≤ 2 ^ j → 2 ^ j < 2 * 2 ^ k → 2 ^ j ≡ 2 ^ k
same_by true true j k ea eb le lt =
    let jk : j ≤ k = grind (arith, nat_tests) in
    let kj : k ≤ j = grind (arith, nat_tests) in
    let same : j ≡ k = omega arith in
    ap (λ n. 2 ^ n) same
same_by true false j k ea eb le lt =
    let jk : j ≤ k = grind (arith, nat_tests) in
    let mono : 2 ^ j ≤ 2 ^ k = pow_mono {i = j} {j = k} jk in
    omega (arith, le, mono)
same_by false b j k ea eb le lt =
    let kj : suc k ≤ j = grind (arith, nat_tests) in
    let mono : 2 ^ (suc k) ≤ 2 ^ j = pow_mono {i = suc k} {j = j} kj in
    let twice : 2 ^ (suc k) ≡ 2 ^ k * 2 = pow-suc 2 k in
    absurd (omega (arith, mono, twice, lt))

again_by : (b : Bool) (s r : ℕ) (k : ℕ) → nat_lt 64 r ≡ b → s ≡ 2 ^ k → 64 ≤ s → IsRaised s r → r ≡ s
again_by true s r k is power least g =
    let lt : 64 < r = grind (arith, nat_tests) in
    let tight = g.tight lt in
    let enough = g.enough in
    let j : ℕ = g.power.0 in
    let rj : r ≡ 2 ^ j = g.power.1 in
    rj ∙ same_by (nat_le j k) (nat_le k j) j k refl refl (omega (arith, rj, power, enough)) (omega (arith, rj, power, tight)) ∙ sym power
again_by false s r k is power least g =
    let le : r ≤ 64 = grind (arith, nat_tests) in
    let enough = g.enough in
    let low = g.least in
    omega (arith, le, enough, low, least)

pub raised_again : (n : ℕ) → n ≤ 524288 → raised (raised n) ≡ raised n
raised_again n le =
    let g = size_is_raised n le in
    again_by (nat_lt 64 (raised (raised n))) (raised n) (raised (raised n)) g.power.0 refl g.power.1 g.least (size_is_raised (raised n) (raised_few n le))

-- the rows of the pool are no more than the buckets may be
pub pool_few : (size percent : ℕ) → size ≤ 524288 → percent ≤ 100 → size * percent / 100 ≤ 524288
pool_few size percent few le =
    let a : size * percent ≤ size * 100 = mul-le-mul_left {m = percent} {n = 100} size le in
    div-le_of_le-mul 100 {m = size * percent} {n = 524288} (omega (arith, a, few))

pub made_empty : (rows : List BucketNow) (pool : PoolNow) (cs : List Column) (size n percent last_call : ℕ) → rows ≡ replicate size (empty_bucket cs) → size ≡ raised n → n ≤ 524288 → percent ≤ 100
    → pool ≡ record { spare = size * percent / 100; room = size * percent / 100; last_call = last_call } → IsEmptyTable rows pool
made_empty rows pool cs size n percent last_call made is le most e =
    let few : size ≤ 524288 = subst (λ k. k ≤ 524288) (sym is) (raised_few n le) in
    record {
      columns = cs;
      size = size;
      empty = made;
      few = few;
      spare = subst (λ k. k ≤ 524288) (sym (ap (λ (p : PoolNow). p.spare) e)) (pool_few size percent few most);
    }

pub made_few : (rows : List BucketNow) (cs : List Column) (size n : ℕ) → rows ≡ replicate size (empty_bucket cs) → size ≡ raised n → n ≤ 524288 → length rows ≤ 524288
made_few rows cs size n made is le = subst (λ k. k ≤ 524288) (sym (ap length made ∙ length-replicate size _ ∙ is)) (raised_few n le)

pub raised_stays : (size n : ℕ) → size ≡ raised n → n ≤ 524288 → raised size ≡ size
raised_stays size n is le = ap raised is ∙ raised_again n le ∙ sym is

pub shared_made : (cs : List Column) (size n percent last_call : ℕ) (locks : LocksNow BucketNow PoolNow) (rows : List BucketNow) (pool : PoolNow) → IsSchema cs → rows ≡ replicate size (empty_bucket cs) → size ≡ raised n → n ≤ 524288 → percent ≤ 100 → last_call ≤ 8796093022207
    → pool ≡ record { spare = size * percent / 100; room = size * percent / 100; last_call = last_call } → locks.start ≡ contents rows pool 0 → IsShared (record { columns = cs; size = size; percent = percent; last_call = last_call; locks = locks })
shared_made cs size n percent last_call locks rows pool sound made is le most last e start =
    let few : size ≤ 524288 = subst (λ k. k ≤ 524288) (sym is) (raised_few n le) in
    let least : 64 ≤ size = subst (λ k. 64 ≤ k) (sym is) (size_is_raised n le).least in
    record {
      starts = (
        ap (λ (c : Contents BucketNow PoolNow). c.rows) start ∙ made,
        ap (λ (c : Contents BucketNow PoolNow). c.pool) start ∙ e,
        ap (λ (c : Contents BucketNow PoolNow). c.count) start,
        omega (arith, least),
      );
      schema = sound;
      few = few;
      percent = most;
      pool = pool_few size percent few most;
      last = last;
    }
