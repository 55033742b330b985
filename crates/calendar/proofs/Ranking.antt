-- Day numbers and seconds rank dates and times, and leave no gap.
use Rattle.std.proofs.Common.{◌≡◌, ℕ, suc, ◌+◌, ◌-◌, ◌*◌, ◌<◌, ◌⊎◌, sym, ap, subst, inl, inr, ⊎_elim, arith}
use Rattle.std.proofs.lemmas.Bool.{cases_order}
use Rattle.calendar.specs.declared.Date.{Date}
use Rattle.calendar.specs.declared.Time.{Time}
use Rattle.calendar.specs.Gregorian.{month_length, year_length, days_before_month, days_before_year, day_number, seconds_of}
use Rattle.calendar.specs.Order.{EarlierTime, Ranks, DaysRank, SecondsRank, DaysGapless}
use Rattle.calendar.proofs.Bounds.{DateBounds, date_bounds, real_from, TimeBounds, time_bounds}
use Rattle.calendar.proofs.Sums.{sum_step, sum_climbs, sum_before, sum_place}

plain : (m n : ℕ) → Ranks m n (m < n) (m ≡ n)
plain m n = record { rises = λ h. h; tells = λ h. h; same = λ h. h }

-- Numbers in two digits: the higher digits i and j, whose blocks begin at a and b, and r and s within the blocks.
-- The order is that of the higher digits, and where these are the same that of the lower.
nested : {B S C R : Type 0} (i j a b r s : ℕ) → (i < j → a + r < b) → (j < i → b + s < a) → (i ≡ j → a ≡ b)
    → Ranks i j B S → (S → i ≡ j) → (S → Ranks r s C R) → Ranks (a + r) (b + s) (B ⊎ (S × C)) (S × R)
nested i j a b r s below above level high back low =
    record {
      rises =
          λ h.
          ⊎_elim (λ u. let x = below (high.rises u) in omega arith)
          (λ u. let x = level (back u.0) in let y = (low u.0).rises u.1 in omega arith) h;
      tells =
          λ h.
          ⊎_elim
          (λ e. let x = level e in let z = high.same e in inr (z, (low z).tells (omega arith)))
          (λ e. ⊎_elim (λ l. inl (high.tells l)) (λ g. let x = above g in absurd (omega arith)) e) (cases_order i j);
      same =
          λ h.
          ⊎_elim
          (λ e. let x = level e in let z = high.same e in (z, (low z).same (omega arith)))
          (λ e. absurd (⊎_elim (λ l. let x = below l in omega arith) (λ g. let x = above g in omega arith) e)) (cases_order i j);
    }

-- a day stands within its year
in_year : (y m d : ℕ) → DateBounds y m d (month_length m y) → days_before_month m y + (d - 1) < year_length y
in_year y m d b =
    omega (arith, sum_step (λ k. month_length k y) m b.month_from, sum_climbs (λ k. month_length k y) m 12 b.month_to)

-- and before every later month of its year
in_month : (y m d n : ℕ) → DateBounds y m d (month_length m y) → m < n → days_before_month m y + (d - 1) < days_before_month n y
in_month y m d n b = sum_before (λ k. month_length k y) m n (d - 1) b.month_from (omega arith)

-- the months m and n with the days d and e, in the years y and z, which are the same
abbrev MonthsRank : ℕ → ℕ → ℕ → ℕ → ℕ → ℕ → Type 0
MonthsRank y z m d n e =
    Ranks (days_before_month m y + (d - 1)) (days_before_month n z + (e - 1)) ((m < n) ⊎ ((m ≡ n) × (d < e))) ((m ≡ n) × (d ≡ e))

months_rank : (y m d n e : ℕ) → DateBounds y m d (month_length m y) → DateBounds y n e (month_length n y)
    → MonthsRank y y m d n e
months_rank y m d n e p q =
    nested m n (days_before_month m y) (days_before_month n y) (d - 1) (e - 1) (in_month y m d n p) (in_month y n e m q)
    (λ h. ap (λ k. days_before_month k y) h) (plain m n) (λ h. h)
    (λ _. record { rises = λ h. omega arith; tells = λ h. omega arith; same = λ h. omega arith })

years_rank : (y m d z n e : ℕ) → DateBounds y m d (month_length m y) → DateBounds z n e (month_length n z)
    → Ranks (days_before_year y + (days_before_month m y + (d - 1))) (days_before_year z + (days_before_month n z + (e - 1)))
    ((y < z) ⊎ ((y ≡ z) × ((m < n) ⊎ ((m ≡ n) × (d < e))))) ((y ≡ z) × ((m ≡ n) × (d ≡ e)))
years_rank y m d z n e p q =
    nested y z (days_before_year y) (days_before_year z) (days_before_month m y + (d - 1)) (days_before_month n z + (e - 1))
    (sum_before year_length y z (days_before_month m y + (d - 1)) p.year_from (in_year y m d p))
    (sum_before year_length z y (days_before_month n z + (e - 1)) q.year_from (in_year z n e q))
    (λ h. ap days_before_year h) (plain y z) (λ h. h)
    (λ h.
    let R : ℕ → Type 0 = λ k. MonthsRank y k m d n e in
    let Q : ℕ → Type 0 = λ k. DateBounds k n e (month_length n k) in
    subst R h (months_rank y m d n e p (subst Q (sym h) q)))

abbrev dated : ℕ → ℕ → ℕ → Date
dated d m y = record { day = d; month = m; year = y }

abbrev timed : ℕ → ℕ → ℕ → Time
timed h m s = record { hour = h; minute = m; second = s }

same_parts : {X : Type 0} (f : ℕ → ℕ → ℕ → X) (i j k l m n : ℕ) → i ≡ l → j ≡ m → k ≡ n → f i j k ≡ f l m n
same_parts f i j k l m n p q r = cc

pub days_rank : DaysRank
days_rank a b p q =
    let k = years_rank a.year a.month a.day b.year b.month b.day (date_bounds a p) (date_bounds b q) in
    record {
      rises = k.rises;
      tells = k.tells;
      same =
          λ h.
          let e = k.same h in
          same_parts dated a.day a.month a.year b.day b.month b.year e.1.1 e.1.0 e.0;
    }

-- the seconds since midnight
abbrev since_midnight : Time → ℕ
since_midnight t = t.hour * 3600 + (t.minute * 60 + t.second)

times_rank : (s t : Time) → TimeBounds s → TimeBounds t
    → Ranks (since_midnight s) (since_midnight t) (EarlierTime s t)
    ((s.hour ≡ t.hour) × ((s.minute ≡ t.minute) × (s.second ≡ t.second)))
times_rank s t p q =
    nested s.hour t.hour (s.hour * 3600) (t.hour * 3600) (s.minute * 60 + s.second) (t.minute * 60 + t.second)
    (λ h. omega arith) (λ h. omega arith) (λ h. omega arith) (plain s.hour t.hour) (λ h. h)
    (λ _.
    nested s.minute t.minute (s.minute * 60) (t.minute * 60) s.second t.second (λ h. omega arith)
    (λ h. omega arith) (λ h. omega arith) (plain s.minute t.minute) (λ h. h) (λ _. plain s.second t.second))

-- days that are ranked by their numbers, each with a time within the day
moments_rank : {B S C R : Type 0} (d e x y : ℕ) → x < 86400 → y < 86400 → Ranks d e B S → (S → d ≡ e) → Ranks x y C R
    → Ranks (d * 86400 + x) (e * 86400 + y) (B ⊎ (S × C)) (S × R)
moments_rank d e x y p q high back low =
    nested d e (d * 86400) (e * 86400) x y (λ h. omega arith) (λ h. omega arith) (λ h. omega arith) high back (λ _. low)

midnight : (t : Time) → TimeBounds t → since_midnight t < 86400
midnight t b = omega arith

gathered : (d h m s : ℕ) → d * 86400 + (h * 3600 + (m * 60 + s)) ≡ ((d * 24 + h) * 60 + m) * 60 + s
gathered d h m s = omega arith

moved : {B S : Type 0} (i j k l : ℕ) → i ≡ k → j ≡ l → Ranks i j B S → Ranks k l B S
moved i j k l p q r =
    record { rises = λ h. omega (arith, r.rises h); tells = λ h. r.tells (omega arith); same = λ h. r.same (omega arith) }

pub seconds_rank : SecondsRank
seconds_rank a b s t p q u v =
    let x = time_bounds s u in
    let y = time_bounds t v in
    let k =
    moved (day_number a * 86400 + since_midnight s) (day_number b * 86400 + since_midnight t) (seconds_of a s) (seconds_of b t)
    (gathered (day_number a) s.hour s.minute s.second) (gathered (day_number b) t.hour t.minute t.second)
    (moments_rank (day_number a) (day_number b) (since_midnight s) (since_midnight t) (midnight s x) (midnight t y)
    (days_rank a b p q) (λ h. ap day_number h) (times_rank s t x y))
    in
    record {
      rises = k.rises;
      tells = k.tells;
      same =
          λ h.
          let e = k.same h in (
            e.0,
            same_parts timed s.hour s.minute s.second t.hour t.minute t.second e.1.0 e.1.1.0 e.1.1.1,
          );
    }

pub days_gapless : DaysGapless
days_gapless n h =
    let y = sum_place year_length 9999 n h in
    let rest = n - days_before_year y.at in
    let m = sum_place (λ k. month_length k y.at) 12 rest y.inside in
    let d = suc (rest - days_before_month m.at y.at) in (
      dated d m.at y.at,
      real_from (dated d m.at y.at)
          (record {
            year_from = y.from;
            year_to = y.to;
            month_from = m.from;
            month_to = m.to;
            day_from = omega arith;
            day_to = m.inside;
          }),
      omega (arith, y.start, m.start),
    )
