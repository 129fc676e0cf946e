-- Beginnings of rounds: which is that of a tick's round, how many rounds a product with the reciprocal gives, and the
-- share of twice as many ticks and one more.
-- Assumes nothing.
use mathlib.Core.Path.{◌≡◌, sym, ap, ◌∙◌}
use Prim.Native.Nat.{ℕ, ◌+◌, ◌-◌, ◌*◌, ◌/◌, ◌%◌, ◌≤◌, ◌<◌}
use native.Mathlib.Nat.{add-mul, mul_comm, mul_assoc, mul-le-mul_left, mul-le-mul_right, mul-lt-mul_of_pos_right, le_of_mul-le-mul_right, lt_of_mul-lt-mul_right, mod-lt, add-mod_right, div-le_self, mod-eq_of_lt, div-add-mod', div-mul-le_self, lt-div-mul-add, div-eq_of_lt-le, mul-mod_left, mul-add-mod_self_right, add-mul-mod_self_right}
use native.Mathlib.Omega.{arith}
use Rattle.bus_timetable.specs.Bus.{round_beginning_at, reciprocal_of, Carried}

-- a beginning of a round that a tick is less than a round behind is that of the tick's round
pub beginning_is : (R b t : ℕ) → Carried R b t → t < b + R → b ≡ round_beginning_at R t
unfolding round_beginning_at
beginning_is R b t c u =
    let s : t ≡ b / R * R + (t - b) = omega (arith, div-add-mod' b R, c.beginning, c.by) in
    let m : t % R ≡ t - b = ap (λ (z : ℕ). z % R) s ∙ mul-add-mod_self_right (b / R) R (t - b) ∙ mod-eq_of_lt (omega (arith, u, c.by)) in
    omega (arith, m, c.by)

-- one some rounds later, or one round, is carried as well, where it is not past the tick
pub carried_on : (R b n t : ℕ) → Carried R b t → b + n * R ≤ t → Carried R (b + n * R) t
carried_on R b n t c l = record { beginning = add-mul-mod_self_right b n R ∙ c.beginning; by = l }

pub carried_next : (R b t : ℕ) → Carried R b t → b + R ≤ t → Carried R (b + R) t
carried_next R b t c l = record { beginning = add-mod_right b R ∙ c.beginning; by = l }

-- the beginning of a tick's round is carried on to later ticks
pub carried_from : (R t u : ℕ) → t ≤ u → Carried R (round_beginning_at R t) u
unfolding round_beginning_at
carried_from R t u l =
    let s : t - t % R ≡ t / R * R = omega (arith, div-add-mod' t R) in
    record { beginning = ap (λ (z : ℕ). z % R) s ∙ mul-mod_left (t / R) R; by = omega (arith, l) }

-- A product with m, over K, gives the rounds in g ticks, or one less.
module _ (K R m g : ℕ) (pos : 0 < R) (low : m * R < K) (high : K ≤ m * R + R) (few : g ≤ K) where
  abbrev n : ℕ
  n = g * m / K

  turned : n * R * K ≡ n * K * R
  turned = mul_assoc n R K ∙ ap (λ (z : ℕ). n * z) (mul_comm R K) ∙ sym (mul_assoc n K R)

  pub rounds_most : n * R ≤ g
  rounds_most =
      let a : n * K * R ≤ g * m * R = mul-le-mul_right R (div-mul-le_self (g * m) K) in
      let b : g * (m * R) ≤ g * K = mul-le-mul_left g (omega (arith, low)) in
      let l : n * R * K ≤ g * K = omega (arith, turned, a, b, mul_assoc g m R) in
      le_of_mul-le-mul_right {k = K} l (omega (arith, low))

  pub rounds_least : g < n * R + R + R
  rounds_least =
      let p : 0 < K = omega (arith, low) in
      let a : g * m * R < (n * K + K) * R = mul-lt-mul_of_pos_right (lt-div-mul-add {a = g * m} {b = K} p) pos in
      let b : g * K ≤ g * (m * R + R) = mul-le-mul_left g high in
      let d : g * (m * R + R) ≡ g * m * R + g * R = mul_comm g (m * R + R) ∙ add-mul (m * R) R g ∙ λ i. (mul_comm (m * R) g ∙ sym (mul_assoc g m R)) i + mul_comm R g i in
      let e : g * R ≤ K * R = mul-le-mul_right R few in
      let f : (n * K + K) * R ≡ n * K * R + K * R = add-mul (n * K) K R in
      let h : (n * R + R + R) * K ≡ n * R * K + R * K + R * K = add-mul (n * R + R) R K ∙ ap (λ (z : ℕ). z + R * K) (add-mul (n * R) R K) in
      let l : g * K < (n * R + R + R) * K = omega (arith, a, b, d, e, f, h, turned, mul_comm R K) in
      lt_of_mul-lt-mul_right K l

-- the reciprocal of a round is such a number, for as many ticks as there are
module _ (R g : ℕ) (pos : 0 < R) (few : g < 2147483648) where
  pub reciprocal_small : reciprocal_of R < 2147483648
  unfolding reciprocal_of
  reciprocal_small = omega (arith, div-le_self 2147483647 R)

  low : reciprocal_of R * R < 2147483648
  unfolding reciprocal_of
  low = omega (arith, div-mul-le_self 2147483647 R)

  high : 2147483648 ≤ reciprocal_of R * R + R
  unfolding reciprocal_of
  high = omega (arith, lt-div-mul-add {a = 2147483647} {b = R} pos)

  pub near_most : g * reciprocal_of R / 2147483648 * R ≤ g
  near_most = rounds_most 2147483648 R (reciprocal_of R) g pos low high (omega (arith, few))

  pub near_least : g < g * reciprocal_of R / 2147483648 * R + R + R
  near_least = rounds_least 2147483648 R (reciprocal_of R) g pos low high (omega (arith, few))

-- of twice as many ticks and one more a round takes twice the share, and one more where what is left lets it
module _ (R v : ℕ) (pos : 0 < R) where
  whole : v / R * R + v % R ≡ v
  whole = div-add-mod' v R

  share : (k : ℕ) → k * R ≤ v + v + 1 → v + v + 1 < k * R + R → ((v + v + 1) / R ≡ k) × ((v + v + 1) % R ≡ v + v + 1 - k * R)
  share k l u =
      let z : (k + 1) * R ≡ k * R + R = add-mul k 1 R ∙ omega arith in
      let q : (v + v + 1) / R ≡ k = div-eq_of_lt-le {k = k} R l (omega (arith, z, u)) in
      (q, omega (arith, div-add-mod' (v + v + 1) R, ap (λ (z : ℕ). z * R) q))

  twice : (v / R + v / R) * R ≡ v / R * R + v / R * R
  twice = add-mul (v / R) (v / R) R

  pub doubled_within : v % R + v % R + 1 < R → ((v + v + 1) / R ≡ v / R + v / R) × ((v + v + 1) % R ≡ v % R + v % R + 1)
  doubled_within l =
      let s = share (v / R + v / R) (omega (arith, whole, twice)) (omega (arith, whole, twice, l)) in
      (s.0, omega (arith, s.1, whole, twice))

  pub doubled_past : R ≤ v % R + v % R + 1 → ((v + v + 1) / R ≡ v / R + v / R + 1) × ((v + v + 1) % R ≡ v % R + v % R + 1 - R)
  doubled_past l =
      let t : (v / R + v / R + 1) * R ≡ (v / R + v / R) * R + R = add-mul (v / R + v / R) 1 R ∙ omega arith in
      let s = share (v / R + v / R + 1) (omega (arith, whole, twice, t, l)) (omega (arith, whole, twice, t, mod-lt v pos)) in
      (s.0, omega (arith, s.1, whole, twice, t))
