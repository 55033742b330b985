-- The text of a moment and of a period: read back, taken apart and put together, in every code.
use Rattle.std.proofs.Common.{◌≡◌, ℕ, zero, suc, ◌+◌, ◌*◌, ◌/◌, ◌%◌, ◌<◌, ◌≤◌, Bool, true, false, cond, ◌&&◌, eqb, leb, List, [], ◌∷◌, ◌++◌, length, get_or, take, drop, is_some, IfSome, Some, None, Option, sym, refl, ap, ◌∙◌, ap₂, arith, lit≤}
use Rattle.std.proofs.ByRecursion.{All-append, All-push}
use Rattle.std.proofs.lemmas.List.{take-append-drop, take_all, drop-drop, length-drop}
use Rattle.std.proofs.lemmas.Slice.Eq.{bytes_eq-Decides}
use Rattle.std.proofs.lemmas.Bool.{and_from, and_parts, false≢true, cond_both, cond-true, eq-eqb, eqb-true, le-leb, leb-true}
use Rattle.std.proofs.lemmas.Bool.Decides.{nat_tests}
use Rattle.std.specs.List.{AllByRecursion}
use Rattle.std.specs.Str.{bytes_eq}
use Rattle.calendar.specs.declared.Date.{Date}
use Rattle.calendar.specs.declared.Time.{Time}
use Rattle.calendar.specs.declared.moments.Moment.{Moment}
use Rattle.calendar.specs.Gregorian.{leap, month_lengths, real_date, real_time, seconds_of}
use Rattle.calendar.proofs.Bounds.{date_bounds, time_bounds}
use Rattle.text_code.specs.Spellings.{OneToFour, PrefixFree, OwnBytes, Spelled, spell_all}
use Rattle.text_code.proofs.Unique.{unique_decoding}
use Rattle.validity.specs.declared.answer.Period.{Period}
use Rattle.octets.specs.Digits.{digits}
use Rattle.validity.specs.Periods.{InEveryCode, InOrder, MomentOf, PeriodOf, ReadInEveryCode, Tells, between, date_at, date_text, moment_at, moment_text, period_of, period_text, seconds_if_real, time_at, time_text, two_parts}
use Rattle.validity.proofs.ZoneAnswers.{own_spelled}

-- reading back

low_bits : (x : ℕ) → x < 10 → (48 + x) % 16 ≡ x
low_bits x h = omega arith

two_back : (n : ℕ) → n < 100 → (48 + n / 10 % 10) % 16 * 10 + (48 + n % 10) % 16 ≡ n
two_back n h =
    ap₂ (λ x y. x * 10 + y) (low_bits (n / 10 % 10) (omega arith)) (low_bits (n % 10) (omega arith)) ∙ omega arith

four_back : (n : ℕ) → n < 10000
    → ((48 + n / 10 / 10 / 10 % 10) % 16 * 10 + (48 + n / 10 / 10 % 10) % 16) * 100 + ((48 + n / 10 % 10) % 16 * 10 + (48 + n % 10) % 16) ≡ n
four_back n h =
    let m : ℕ = n / 10 / 10 in
    let high : (48 + m / 10 % 10) % 16 * 10 + (48 + m % 10) % 16 ≡ m = two_back m (omega arith) in
    ap₂ (λ x y. x * 100 + y) high
    (ap₂ (λ x y. x * 10 + y) (low_bits (n / 10 % 10) (omega arith)) (low_bits (n % 10) (omega arith))) ∙ omega arith

listed_bound : (xs : List ℕ) (k : ℕ) → AllByRecursion (λ x. x ≤ 31) xs → get_or xs k 0 ≤ 31
listed_bound [] k h = omega arith
listed_bound (x ∷ xs) zero (l, h) = l
listed_bound (x ∷ xs) (suc k) (l, h) = listed_bound xs k h

leap_day : (b : Bool) → cond {A = ℕ} b 1 0 ≤ 1
leap_day b = grind (arith, nat_tests)

day_bound : (d : Date) → real_date d ≡ true → d.day < 100
day_bound d h =
    let b = date_bounds d h in
    let m : get_or (0 ∷ month_lengths) d.month 0 ≤ 31 =
    listed_bound (0 ∷ month_lengths) d.month (lit≤ tt, (lit≤ tt, (lit≤ tt, (lit≤ tt, (lit≤ tt, (lit≤ tt, (lit≤ tt, (lit≤ tt, (lit≤ tt, (lit≤ tt, (lit≤ tt, (lit≤ tt, (lit≤ tt, tt))))))))))))) in
    omega (arith, b.day_to, leap_day (eqb d.month 2 && leap d.year))

abbrev pub dated : ℕ → ℕ → ℕ → Date
dated d m y = record { day = d; month = m; year = y }

abbrev pub timed : ℕ → ℕ → ℕ → Time
timed h m s = record { hour = h; minute = m; second = s }

same_parts : {X : Type 0} (f : ℕ → ℕ → ℕ → X) (i j k l m n : ℕ) → i ≡ l → j ≡ m → k ≡ n → f i j k ≡ f l m n
same_parts f i j k l m n p q r = cc

date_back : (d : Date) (t : Time) → real_date d ≡ true → date_at (moment_text d t) ≡ d
date_back d t h =
    let b = date_bounds d h in
    same_parts dated _ _ _ d.day d.month d.year (two_back d.day (day_bound d h)) (two_back d.month (omega (arith, b.month_to)))
    (four_back d.year (omega (arith, b.year_to)))

time_back : (d : Date) (t : Time) → real_time t ≡ true → time_at (moment_text d t) ≡ t
time_back d t h =
    let b = time_bounds t h in
    same_parts timed _ _ _ t.hour t.minute t.second (two_back t.hour (omega (arith, b.hour_to)))
    (two_back t.minute (omega (arith, b.minute_to))) (two_back t.second (omega (arith, b.second_to)))

-- a moment made from a text that is its writing
moment_some : (r : Option Moment) (d : Date) (t : Time) → is_some r ≡ true → IfSome r (λ m. (m.date ≡ d) × (m.time ≡ t))
    → (m : Moment) × (r ≡ Some m) × (m.date ≡ d) × (m.time ≡ t)
moment_some None d t h f = absurd (false≢true h)
moment_some (Some m) d t h f = (m, refl, f.0, f.1)

moment_same : (cs : List ℕ) (r : Option Moment) (d : Date) (t : Time) → cs ≡ moment_text d t → IfSome r (λ m. (m.date ≡ d) × (m.time ≡ t))
    → IfSome r (λ m. cs ≡ moment_text m.date m.time)
moment_same cs None d t e f = tt
moment_same cs (Some m) d t e f = e ∙ ap₂ moment_text (sym f.0) (sym f.1)

-- what is read of a text that a real moment writes is that moment
moment_read : (cs : List ℕ) (d : Date) (t : Time) → d ≡ date_at cs → t ≡ time_at cs → (e : Date) (u : Time) → real_date e ≡ true → real_time u ≡ true → cs ≡ moment_text e u → (d ≡ e) × (t ≡ u)
moment_read cs d t p q e u re ru x = (p ∙ ap date_at x ∙ date_back e u re, q ∙ ap time_at x ∙ time_back e u ru)

pub moment_written : (cs : List ℕ) (r : Option Moment) (d : Date) (t : Time) → d ≡ date_at cs → t ≡ time_at cs → cs ≡ moment_text d t
    → is_some r ≡ (real_date d && real_time t) → IfSome r (λ m. (m.date ≡ d) × (m.time ≡ t)) → MomentOf cs r
moment_written cs r d t p q w h f =
    record {
      told = λ e u re ru x.
          let same = moment_read cs d t p q e u re ru x in
          let g = moment_some r d t (h ∙ and_from (real_date d) (real_time t) (ap real_date same.0 ∙ re) (ap real_time same.1 ∙ ru)) f in
          (g.0, g.1, g.2 ∙ same.0, g.3 ∙ same.1);
      only = moment_same cs r d t w f;
    }

-- a text that writes another date and time than are read of it, or none that are real, writes no moment
pub moment_unwritten : (cs : List ℕ) (d : Date) (t : Time) → d ≡ date_at cs → t ≡ time_at cs → (real_date d ≡ true → real_time t ≡ true → cs ≡ moment_text d t → ⊥) → MomentOf cs None
moment_unwritten cs d t p q not =
    record {
      told = λ e u re ru x.
          let same = moment_read cs d t p q e u re ru x in
          absurd (not (ap real_date same.0 ∙ re) (ap real_time same.1 ∙ ru) (x ∙ ap₂ moment_text (sym same.0) (sym same.1)));
      only = tt;
    }

-- and gives no seconds
pub seconds_unwritten : (cs : List ℕ) (d : Date) (t : Time) → d ≡ date_at cs → t ≡ time_at cs → (cs ≡ moment_text d t → ⊥) → None ≡ moment_at cs
seconds_unwritten cs d t p q not =
    let own = moment_text (date_at cs) (time_at cs) in
    cond_both (bytes_eq cs own) (seconds_if_real (date_at cs) (time_at cs)) None (λ (o : Option ℕ). None ≡ o)
    (λ e. absurd (not ((bytes_eq-Decides cs own).0 e ∙ ap₂ moment_text (sym p) (sym q))))
    (λ e. refl)

-- a moment's text gives its seconds, and only such a text gives any

pub moment_told : (cs : List ℕ) (d : Date) (t : Time) → real_date d ≡ true → real_time t ≡ true → cs ≡ moment_text d t → moment_at cs ≡ Some (seconds_of d t)
moment_told cs d t rd rt x =
    let p : date_at cs ≡ d = ap date_at x ∙ date_back d t rd in
    let q : time_at cs ≡ t = ap time_at x ∙ time_back d t rt in
    cond-true (bytes_eq cs (moment_text (date_at cs) (time_at cs))) (seconds_if_real (date_at cs) (time_at cs)) None ((bytes_eq-Decides cs (moment_text (date_at cs) (time_at cs))).1 (x ∙ ap₂ moment_text (sym p) (sym q)))
    ∙ ap₂ seconds_if_real p q
    ∙ cond-true (real_date d && real_time t) (Some (seconds_of d t)) None (and_from (real_date d) (real_time t) rd rt)

pub record Moments (cs : List ℕ) (s : ℕ) : Type 0 where
  pub date : Date
  pub time : Time
  pub date_is_real : real_date date ≡ true
  pub time_is_real : real_time time ≡ true
  pub text : cs ≡ moment_text date time
  pub seconds : s ≡ seconds_of date time

if_some : {A : Type 0} (b : Bool) (o : Option A) (x : A) → Some x ≡ cond b o None → (b ≡ true) × (Some x ≡ o)
if_some true o x e = (refl, e)
if_some false o x e = let z : ◌≡◌ {A = ℕ} 0 1 = cc in absurd (omega arith)

some_same : {A : Type 0} (x y : A) → Some x ≡ Some y → x ≡ y
some_same x y e = cc

moment_only : (cs : List ℕ) (s : ℕ) → Some s ≡ moment_at cs → Moments cs s
moment_only cs s e =
    let d = date_at cs in
    let t = time_at cs in
    let p = if_some (bytes_eq cs (moment_text d t)) (seconds_if_real d t) s e in
    let q = if_some (real_date d && real_time t) (Some (seconds_of d t)) s p.1 in
    let r = and_parts (real_date d) (real_time t) q.0 in
    record {
      date = d;
      time = t;
      date_is_real = r.0;
      time_is_real = r.1;
      text = (bytes_eq-Decides cs (moment_text d t)).0 p.0;
      seconds = some_same s (seconds_of d t) q.1;
    }

-- a period's text and its parts

abbrev pub dash : List ℕ
dash = 32 ∷ 45 ∷ 32 ∷ []

pub record Parts (bytes : List ℕ) (d : Date) (t : Time) (e : Date) (u : Time) : Type 0 where
  pub long : length bytes ≡ 41
  pub first : take 19 (drop 0 bytes) ≡ moment_text d t
  pub middle : take 3 (drop 19 bytes) ≡ dash
  pub last : take 19 (drop 22 bytes) ≡ moment_text e u

pub parted : (bytes : List ℕ) (d : Date) (t : Time) (e : Date) (u : Time) → bytes ≡ period_text d t e u → Parts bytes d t e u
parted bytes d t e u x =
    record { long = ap length x; first = ap (take 19) x; middle = ap (λ cs. take 3 (drop 19 cs)) x; last = ap (λ cs. take 19 (drop 22 cs)) x }

pub joined : (bytes : List ℕ) (d : Date) (t : Time) (e : Date) (u : Time) → Parts bytes d t e u → bytes ≡ period_text d t e u
joined bytes d t e u p =
    sym (take-append-drop 19 bytes) ∙ ap₂ (λ xs ys. xs ++ ys) p.first
    (sym (take-append-drop 3 (drop 19 bytes)) ∙ ap₂ (λ xs ys. xs ++ ys) p.middle
    (drop-drop 3 19 bytes ∙ sym (take_all 19 (drop 22 bytes) (omega (arith, length-drop 22 bytes, p.long))) ∙ p.last))

-- in every code

digits_own : (w n : ℕ) → AllByRecursion (λ c. (32 ≤ c) × (c ≤ 126)) (digits w n)
digits_own zero n = tt
digits_own (suc w) n = All-push (λ c. (32 ≤ c) × (c ≤ 126)) (digits w (n / 10)) (48 + n % 10) (digits_own w (n / 10)) (omega arith, omega arith)

abbrev Own : List ℕ → Type 0
Own cs = AllByRecursion (λ c. (32 ≤ c) × (c ≤ 126)) cs

behind_number : (w n c : ℕ) (cs : List ℕ) → 32 ≤ c → c ≤ 126 → Own cs → Own (digits w n ++ (c ∷ cs))
behind_number w n c cs l h o = All-append (λ x. (32 ≤ x) × (x ≤ 126)) (digits w n) (c ∷ cs) (digits_own w n) ((l, h), o)

moment_own : (d : Date) (t : Time) → Own (moment_text d t)
moment_own d t =
    All-append (λ x. (32 ≤ x) × (x ≤ 126)) (date_text d) (32 ∷ time_text t)
    (behind_number 2 d.day 46 (digits 2 d.month ++ (46 ∷ digits 4 d.year)) (lit≤ tt) (lit≤ tt)
    (behind_number 2 d.month 46 (digits 4 d.year) (lit≤ tt) (lit≤ tt) (digits_own 4 d.year))) (
      (lit≤ tt, lit≤ tt),
      behind_number 2 t.hour 58 (digits 2 t.minute ++ (58 ∷ digits 2 t.second)) (lit≤ tt) (lit≤ tt)
          (behind_number 2 t.minute 58 (digits 2 t.second) (lit≤ tt) (lit≤ tt) (digits_own 2 t.second)),
    )

period_spelled : (f : ℕ → Option (List ℕ)) (d : Date) (t : Time) (e : Date) (u : Time) → OwnBytes f → Spelled f (period_text d t e u) (period_text d t e u)
period_spelled f d t e u own =
    own_spelled f (period_text d t e u) own
    (All-append (λ x. (32 ≤ x) × (x ≤ 126)) (moment_text d t) (32 ∷ 45 ∷ 32 ∷ moment_text e u) (moment_own d t)
    ((lit≤ tt, lit≤ tt), ((lit≤ tt, lit≤ tt), ((lit≤ tt, lit≤ tt), moment_own e u))))

tells_in : (f : ℕ → Option (List ℕ)) (bytes cs : List ℕ) (p : Period) → OneToFour f → PrefixFree f → OwnBytes f → Spelled f cs bytes → Tells bytes p → Tells cs p
tells_in f bytes cs p short apart own s t =
    let w = period_text t.first_date t.first_time t.last_date t.last_time in
    record {
      first_date = t.first_date;
      first_time = t.first_time;
      last_date = t.last_date;
      last_time = t.last_time;
      real = t.real;
      text = unique_decoding f short apart cs w w (s ∙ ap Some t.text) (period_spelled f t.first_date t.first_time t.last_date t.last_time own);
      begins = t.begins;
      ends = t.ends;
    }

only_in : (f : ℕ → Option (List ℕ)) (bytes cs : List ℕ) (r : Option Period) → OneToFour f → PrefixFree f → OwnBytes f → Spelled f cs bytes
    → IfSome r (Tells bytes) → IfSome r (Tells cs)
only_in f bytes cs None short apart own s t = tt
only_in f bytes cs (Some p) short apart own s t = tells_in f bytes cs p short apart own s t

in_code : (f : ℕ → Option (List ℕ)) (bytes cs : List ℕ) (r : Option Period) → OneToFour f → PrefixFree f → OwnBytes f → Spelled f cs bytes → PeriodOf bytes r → PeriodOf cs r
in_code f bytes cs r short apart own s a =
    record {
      told = λ d t e u o x.
          let w : Some (period_text d t e u) ≡ Some bytes = sym (period_spelled f d t e u own) ∙ ap (spell_all f) (sym x) ∙ s in
          let y : bytes ≡ period_text d t e u = cc in
          a.told d t e u o y;
      only = only_in f bytes cs r short apart own s a.only;
    }

-- a text cut into 19 bytes, the three in the middle and 19 more
pub cut_in_two : (bytes rest last : List ℕ) → rest ≡ drop 19 bytes → length rest + 19 ≡ length bytes → bytes_eq (take 3 rest) dash ≡ true
    → last ≡ drop 3 rest → length last + 3 ≡ length rest → length last ≡ 19 → (two_parts bytes ≡ true) × (last ≡ take 19 (drop 22 bytes))
cut_in_two bytes rest last r m e q n k = (
  and_from (eqb (length bytes) 41) (bytes_eq (take 3 (drop 19 bytes)) dash) (eq-eqb (length bytes) 41 (omega arith)) (ap (λ x. bytes_eq (take 3 x) dash) (sym r) ∙ e),
  q ∙ ap (drop 3) r ∙ drop-drop 3 19 bytes ∙ sym (take_all 19 (drop 22 bytes) (omega (arith, length-drop 22 bytes))),
)

-- the answers

told_as : (cs : List ℕ) (d : Date) (t : Time) (e : Date) (u : Time) → InOrder d t e u → cs ≡ period_text d t e u → period_of cs ≡ Some (record { begin = seconds_of d t; end = seconds_of e u })
told_as cs d t e u o x =
    let p = parted cs d t e u x in
    cond-true (eqb (length cs) 41 && bytes_eq (take 3 (drop 19 cs)) dash) (between (moment_at (take 19 cs)) (moment_at (take 19 (drop 22 cs)))) None
    (and_from (eqb (length cs) 41) (bytes_eq (take 3 (drop 19 cs)) dash) (eq-eqb (length cs) 41 p.long) ((bytes_eq-Decides (take 3 (drop 19 cs)) dash).1 p.middle))
    ∙ ap₂ between (moment_told (take 19 cs) d t o.begin_date o.begin_time p.first) (moment_told (take 19 (drop 22 cs)) e u o.end_date o.end_time p.last)
    ∙ cond-true (leb (seconds_of d t) (seconds_of e u)) (Some (record { begin = seconds_of d t; end = seconds_of e u })) None (le-leb (seconds_of d t) (seconds_of e u) o.order)

tells_both : (cs : List ℕ) (b l : ℕ) → length cs ≡ 41 → take 3 (drop 19 cs) ≡ dash → Moments (take 19 cs) b → Moments (take 19 (drop 22 cs)) l → b ≤ l → Tells cs (record { begin = b; end = l })
tells_both cs b l n m p q h =
    let order : seconds_of p.date p.time ≤ seconds_of q.date q.time = omega (arith, p.seconds, q.seconds) in
    record {
      first_date = p.date;
      first_time = p.time;
      last_date = q.date;
      last_time = q.time;
      real = record { begin_date = p.date_is_real; begin_time = p.time_is_real; end_date = q.date_is_real; end_time = q.time_is_real; order = order };
      text = joined cs p.date p.time q.date q.time (record { long = n; first = p.text; middle = m; last = q.text });
      begins = p.seconds;
      ends = q.seconds;
    }

tells_between : (cs : List ℕ) (x y : Option ℕ) → length cs ≡ 41 → take 3 (drop 19 cs) ≡ dash → x ≡ moment_at (take 19 cs) → y ≡ moment_at (take 19 (drop 22 cs)) → IfSome (between x y) (Tells cs)
tells_between cs None y n m p q = tt
tells_between cs (Some b) None n m p q = tt
tells_between cs (Some b) (Some l) n m p q =
    cond_both (leb b l) (Some (record { begin = b; end = l })) None (λ r. IfSome r (Tells cs))
    (λ h. tells_both cs b l n m (moment_only (take 19 cs) b p) (moment_only (take 19 (drop 22 cs)) l q) (leb-true b l h)) (λ h. tt)

pub period_law : (cs : List ℕ) → PeriodOf cs (period_of cs)
period_law cs =
    record {
      told = told_as cs;
      only = cond_both (eqb (length cs) 41 && bytes_eq (take 3 (drop 19 cs)) dash) (between (moment_at (take 19 cs)) (moment_at (take 19 (drop 22 cs)))) None (λ r. IfSome r (Tells cs))
          (λ h.
          let p = and_parts (eqb (length cs) 41) (bytes_eq (take 3 (drop 19 cs)) dash) h in
          tells_between cs (moment_at (take 19 cs)) (moment_at (take 19 (drop 22 cs))) (eqb-true (length cs) 41 p.0) ((bytes_eq-Decides (take 3 (drop 19 cs)) dash).0 p.1) refl refl)
          (λ h. tt);
    }

-- a text has one answer
told_first : (cs : List ℕ) (p : Period) (r : Option Period) → Tells cs p → PeriodOf cs r → r ≡ Some p
told_first cs p r t a =
    a.told t.first_date t.first_time t.last_date t.last_time t.real t.text
    ∙ ap₂ (λ i j. Some (record { begin = i; end = j })) (sym t.begins) (sym t.ends)

one_answer : (cs : List ℕ) (r q : Option Period) → PeriodOf cs r → PeriodOf cs q → r ≡ q
one_answer cs None None a b = refl
one_answer cs None (Some p) a b = told_first cs p None b.only a
one_answer cs (Some p) q a b = sym (told_first cs p q a.only b)

pub in_every_code : (bytes : List ℕ) (r : Option Period) → PeriodOf bytes r → InEveryCode bytes r
in_every_code bytes r a f short apart own cs s = in_code f bytes cs r short apart own s a

pub read_in_every_code : (bytes : List ℕ) (r : Option Period) → PeriodOf bytes r → ReadInEveryCode bytes r
read_in_every_code bytes r a f short apart own cs s = one_answer cs r (period_of cs) (in_code f bytes cs r short apart own s a) (period_law cs)
