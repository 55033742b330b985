-- Periods: `dd.MM.yyyy HH:mm:ss - dd.MM.yyyy HH:mm:ss`, told in seconds since 01.01.0001 00:00:00.
use Rattle.std.specs.Prelude.{◌≡◌, ℕ, ◌+◌, ◌*◌, ◌%◌, ◌≤◌, Bool, true, cond, ◌&&◌, List, [], ◌∷◌, ◌++◌, length, take, drop, IfSome, Some, None, Option, ◌==◌, nat_le, slice_index}
use Rattle.std.specs.Str.{bytes_eq}
use Rattle.calendar.specs.declared.Date.{Date}
use Rattle.calendar.specs.declared.Time.{Time}
use Rattle.calendar.specs.declared.moments.Moment.{Moment}
use Rattle.calendar.specs.Gregorian.{real_date, real_time, seconds_of}
use Rattle.text_code.specs.Spellings.{OneToFour, PrefixFree, OwnBytes, Spelled}
use Rattle.validity.specs.declared.answer.Period.{Period}
use Rattle.octets.specs.Digits.{digits}

-- dd.MM.yyyy
abbrev pub date_text : Date → List ℕ
date_text d = digits 2 d.day ++ (46 ∷ (digits 2 d.month ++ (46 ∷ digits 4 d.year)))

-- HH:mm:ss
abbrev pub time_text : Time → List ℕ
time_text t = digits 2 t.hour ++ (58 ∷ (digits 2 t.minute ++ (58 ∷ digits 2 t.second)))

abbrev pub moment_text : Date → Time → List ℕ
moment_text d t = date_text d ++ (32 ∷ time_text t)

-- the text of a period from one moment to another
abbrev pub period_text : Date → Time → Date → Time → List ℕ
period_text d t e u = moment_text d t ++ (32 ∷ 45 ∷ 32 ∷ moment_text e u)

-- real moments, the first not after the second
pub record InOrder (d : Date) (t : Time) (e : Date) (u : Time) : Type 0 where
  pub begin_date : real_date d ≡ true
  pub begin_time : real_time t ≡ true
  pub end_date : real_date e ≡ true
  pub end_time : real_time u ≡ true
  pub order : seconds_of d t ≤ seconds_of e u

-- the text is that of a period, which p tells
pub record Tells (cs : List ℕ) (p : Period) : Type 0 where
  pub first_date : Date
  pub first_time : Time
  pub last_date : Date
  pub last_time : Time
  pub real : InOrder first_date first_time last_date last_time
  pub text : cs ≡ period_text first_date first_time last_date last_time
  pub begins : p.begin ≡ seconds_of first_date first_time
  pub ends : p.end ≡ seconds_of last_date last_time

-- the answer to a text: a period exactly when the text is that of two moments in order, and then those
pub record PeriodOf (cs : List ℕ) (r : Option Period) : Type 0 where
  pub told : (d : Date) (t : Time) (e : Date) (u : Time) → InOrder d t e u → cs ≡ period_text d t e u
      → r ≡ Some (record { begin = seconds_of d t; end = seconds_of e u })
  pub only : IfSome r (Tells cs)

-- what bytes would write if they were digits
abbrev pub two_at : List ℕ → ℕ → ℕ
two_at cs i = slice_index cs i % 16 * 10 + slice_index cs (i + 1) % 16

abbrev pub date_at : List ℕ → Date
date_at cs = record { day = two_at cs 0; month = two_at cs 3; year = two_at cs 6 * 100 + two_at cs 8 }

abbrev pub time_at : List ℕ → Time
time_at cs = record { hour = two_at cs 11; minute = two_at cs 14; second = two_at cs 17 }

abbrev pub seconds_if_real : Date → Time → Option ℕ
seconds_if_real d t = cond (real_date d && real_time t) (Some (seconds_of d t)) None

-- the seconds of a real moment, if the text is its own
abbrev pub seconds_if_written : List ℕ → Date → Time → Option ℕ
seconds_if_written cs d t = cond (bytes_eq cs (moment_text d t)) (seconds_if_real d t) None

-- a moment exactly when the text is its writing
pub record MomentOf (cs : List ℕ) (r : Option Moment) : Type 0 where
  pub told : (d : Date) (t : Time) → real_date d ≡ true → real_time t ≡ true → cs ≡ moment_text d t
      → (m : Moment) × (r ≡ Some m) × (m.date ≡ d) × (m.time ≡ t)
  pub only : IfSome r (λ m. cs ≡ moment_text m.date m.time)

abbrev pub moment_seconds : Option Moment → Option ℕ
moment_seconds (Some m) = Some (seconds_of m.date m.time)
moment_seconds None = None

-- the seconds of the moment whose text this is, if it is that of a real one
abbrev pub moment_at : List ℕ → Option ℕ
moment_at cs = seconds_if_written cs (date_at cs) (time_at cs)

abbrev pub between : Option ℕ → Option ℕ → Option Period
between (Some b) (Some e) = cond (nat_le b e) (Some (record { begin = b; end = e })) None
between (Some b) None = None
between None e = None

-- 41 characters with a hyphen between blanks in the middle
abbrev pub two_parts : List ℕ → Bool
two_parts cs = length cs == 41 && bytes_eq (take 3 (drop 19 cs)) (32 ∷ 45 ∷ 32 ∷ [])

-- the period of a text, by its parts
abbrev pub period_of : List ℕ → Option Period
period_of cs = cond (two_parts cs) (between (moment_at (take 19 cs)) (moment_at (take 19 (drop 22 cs)))) None

-- P holds of each text that the bytes spell in some code
abbrev pub InEachCode : (List ℕ → Type 0) → List ℕ → Type 0
InEachCode P bytes =
    (f : ℕ → Option (List ℕ)) → OneToFour f → PrefixFree f → OwnBytes f → (cs : List ℕ) → Spelled f cs bytes → P cs

-- the bytes give the answer to their text in every code
abbrev pub InEveryCode : List ℕ → Option Period → Type 0
InEveryCode bytes r = InEachCode (λ cs. PeriodOf cs r) bytes

-- which is the period that the parts of the text tell
abbrev pub ReadInEveryCode : List ℕ → Option Period → Type 0
ReadInEveryCode bytes r = InEachCode (λ cs. r ≡ period_of cs) bytes
