-- A record's fields: the first fault, and the record read off them. Assumes nothing.
use Rattle.std.proofs.Common.{◌≡◌, ℕ, ◌+◌, ◌-◌, ◌≤◌, List, [], ◌∷◌, ◌++◌, map, length, get_or, take, drop, ℤ, pos, ◌≤ℤ◌, Err, sym, refl, ap, ◌∙◌, subst, arith}
use Rattle.std.specs.List.{flat_map, AllByRecursion}
use Rattle.std.proofs.lemmas.List.{append_assoc, length-append, length-drop, length-map, length-take-le, take_rest}
use Rattle.std.proofs.lemmas.Grind.{flat_map-append}
use Rattle.std.proofs.ByRecursion.{All-append}
use Rattle.std.proofs.lemmas.Int.{ints}
use Rattle.day_sheet.specs.declared.letter.Letter.{Letter}
use Rattle.day_sheet.specs.declared.letter.Letter.TheVariants as letter
use Rattle.day_sheet.specs.declared.letter.Ending.{Ending}
use Rattle.day_sheet.specs.declared.letter.Ending.TheVariants.{Nothing, Holidays, Reference}
use Rattle.day_sheet.specs.declared.fault.Stop.{Stop}
use Rattle.day_sheet.specs.declared.fault.Stop.TheVariants as stop
use Rattle.day_sheet.specs.declared.record.Record.{Record}
use Rattle.day_sheet.specs.declared.record.Record.TheVariants.{Start, Admit, Announce, Bid, Seal, Publish, Void, Fix, Lodge, Release, Terminate}
use Rattle.day_sheet.specs.Groups.{groups, Short, Broken}
use Rattle.day_sheet.specs.Letters.{numbers_in, ending_of}
use Rattle.day_sheet.specs.Faults.{later, place_in}
use Rattle.day_sheet.proofs.Runs.{spelt_within}
use Rattle.day_sheet.specs.Records.{Run, Ends, FieldsFault, missing, broken, left_over, long, holiday}
use Rattle.day_sheet.specs.Fields.{Spelt, ReadOff, NumbersFrom, RunFrom, EndFault}
use Rattle.day_sheet.proofs.Spelling.{groups-some, one-spelling}
use Rattle.day_sheet.specs.Holdings.{letter_of, numbers_of, record_tail, Says, BorrowsTail, ReadAs}

pub fault_of_numbers : (l : Letter) (body : List ℕ) (s : Stop) → NumbersFrom body (numbers_in l) (Err s) → FieldsFault l body s
fault_of_numbers l body stop.Record (ns, few, short, e) = missing ns short e few
fault_of_numbers l body (stop.Number at) (ns, few, s, b) =
    let P : ℕ → Type 0 = λ n. FieldsFault l body (stop.Number n) in
    subst P (sym s.place) (broken ns (drop at body) s.short s.front few b)

pub fault_of_end : (l : Letter) (body ns : List ℕ) (at : ℕ) (s : Stop) → Spelt ns body at → length ns ≡ numbers_in l → EndFault (ending_of l) (drop at body) s → FieldsFault l body (later at s)
fault_of_end l body ns at s t count f = by (ending_of l) s refl f
  where
    by : (k : Ending) (s : Stop) → ending_of l ≡ k → EndFault k (drop at body) s → FieldsFault l body (later at s)
    by Nothing stop.Record is f = left_over ns (drop at body) t.short t.front count is f
    by Nothing (stop.Number after) is f = absurd f
    by Holidays stop.Record is f = absurd f
    by Holidays (stop.Number after) is (ms, u, b) =
        let rest = drop after (drop at body) in
        let j = flat_map-append groups ns ms in
        let e : body ≡ flat_map groups (ns ++ ms) ++ rest = t.front ∙ ap (λ r. flat_map groups ns ++ r) u.front ∙ sym (append_assoc (flat_map groups ns) (flat_map groups ms) rest) ∙ ap (λ g. g ++ rest) (sym j) in
        let p : length (flat_map groups (ns ++ ms)) ≡ at + after = omega (arith, ap length j, length-append (flat_map groups ns) (flat_map groups ms), t.place, u.place) in
        let P : ℕ → Type 0 = λ n. FieldsFault l body (stop.Number n) in
        subst P p (holiday (ns ++ ms) rest (All-append Short ns ms t.short u.short) e (omega (arith, length-append ns ms)) is b)
    by Reference stop.Record is f = long ns (drop at body) t.short t.front count is f
    by Reference (stop.Number after) is f = absurd f

-- it lies within the bytes
pub end-within : (k : Ending) (tail : List ℕ) (s : Stop) → EndFault k tail s → place_in s ≤ length tail
end-within Nothing tail stop.Record f = omega arith
end-within Nothing tail (stop.Number after) f = absurd f
end-within Holidays tail stop.Record f = absurd f
end-within Holidays tail (stop.Number after) (ms, u, b) = spelt_within ms tail after u
end-within Reference tail stop.Record f = omega arith
end-within Reference tail (stop.Number after) f = absurd f

pub fields_within : (l : Letter) (body : List ℕ) (s : Stop) → FieldsFault l body s → place_in s ≤ length body
fields_within l body _ (missing ns short e few) = omega arith
fields_within l body _ (broken ns rest short e few b) = omega (arith, ap length e, length-append (flat_map groups ns) rest)
fields_within l body _ (left_over ns rest short e count is f) = omega arith
fields_within l body _ (long ns rest short e count is f) = omega arith
fields_within l body _ (holiday ns rest short e count is b) = omega (arith, ap length e, length-append (flat_map groups ns) rest)

-- a bid has a second number, and it is not under nought
pub second : (kept : List ℤ) (ns : List ℕ) → length kept ≡ 4 → take 3 kept ≡ map pos ns → pos 0 ≤ℤ get_or kept 1 (pos 0)
second [] ns e read = absurd (omega arith)
second (a ∷ []) ns e read = absurd (omega arith)
second (a ∷ b ∷ rest) ns e read = at ns (ap (λ zs. get_or zs 1 (pos 0)) read)
  where
    at : (ns : List ℕ) → b ≡ get_or (map pos ns) 1 (pos 0) → pos 0 ≤ℤ b
    at [] g = omega (arith, ints, g)
    at (x ∷ []) g = omega (arith, ints, g)
    at (x ∷ y ∷ ns) g = omega (arith, ints, g)

tail_said : (r : Record) (tail : List ℕ) (place : ℕ × ℕ) → BorrowsTail r tail place → Ends (ending_of (letter_of r)) tail → record_tail r ≡ tail
tail_said (Start day percent holidays) tail place b ends = b.0
tail_said (Admit institution) tail place b ends = sym ends
tail_said (Announce kind offer cap' maturity) tail place b ends = sym ends
tail_said (Bid institution price millions reference) tail place b ends = b.0
tail_said Seal tail place b ends = sym ends
tail_said Publish tail place b ends = sym ends
tail_said Void tail place b ends = sym ends
tail_said (Fix day rate) tail place b ends = sym ends
tail_said (Lodge institution centavos) tail place b ends = sym ends
tail_said (Release institution centavos) tail place b ends = sym ends
tail_said (Terminate hedge) tail place b ends = sym ends

-- a letter asks for four numbers at most
pub numbers_few : (l : Letter) → numbers_in l ≤ 4
numbers_few letter.Start = omega arith
numbers_few letter.Admit = omega arith
numbers_few letter.Announce = omega arith
numbers_few letter.Bid = omega arith
numbers_few letter.Seal = omega arith
numbers_few letter.Publish = omega arith
numbers_few letter.Void = omega arith
numbers_few letter.Fix = omega arith
numbers_few letter.Lodge = omega arith
numbers_few letter.Release = omega arith
numbers_few letter.Terminate = omega arith

-- a number was read for each that the letter asks for
pub count_read : (l : Letter) (kept : List ℤ) (ns : List ℕ) → length kept ≡ 4 → take (numbers_in l) kept ≡ map pos ns → length ns ≡ numbers_in l
count_read l kept ns e read = omega (arith, ap length read, length-map ns pos, length-take-le (numbers_in l) kept (omega (arith, numbers_few l)))

pub read_as : (l : Letter) (body : List ℕ) (start : ℕ × ℕ) (r : Record) (kept : List ℤ) (ns : List ℕ) (at : ℕ) → length kept ≡ 4 → take (numbers_in l) kept ≡ map pos ns → Spelt ns body at → Ends (ending_of l) (drop at body) → letter_of r ≡ l → numbers_of r ≡ take (numbers_in l) kept → BorrowsTail r (drop at body) (start.0, at + start.1) → ReadAs l body start r
read_as l body start r kept ns at e read s ends is numbers b =
    let P : Letter → Type 0 = λ k. Ends (ending_of k) (drop at body) in
    let Q : ℕ → Type 0 = λ n. BorrowsTail r (drop at body) (start.0, n) in
    let says : Says r (record { letter = l; numbers = ns; tail = drop at body }) = record { letter = is; numbers = numbers ∙ read; tail = tail_said r (drop at body) (start.0, at + start.1) b (subst P (sym is) ends) } in
    record {
      entry = record { letter = l; numbers = ns; tail = drop at body };
      letter = refl;
      says = says;
      complete = record { count = count_read l kept ns e read; short = s.short; ends = ends };
      spelled = s.front;
      borrows = subst Q (omega (arith, s.place)) b;
    }

-- ---- the same, as the code has them: how many numbers and which end are asked for, and the rest of the body as a part of it
pub numbers-failed : (l : Letter) (body : List ℕ) (count : ℕ) (s : Stop) → count ≡ numbers_in l → NumbersFrom body count (Err s) → FieldsFault l body s
numbers-failed l body count s is f =
    let P : ℕ → Type 0 = λ n. NumbersFrom body n (Err s) in
    fault_of_numbers l body s (subst P is f)

pub record TailOf (l : Letter) (body : List ℕ) (kept : List ℤ) (at : ℕ) : Type 0 where
  pub ns : List ℕ
  pub read : take (numbers_in l) kept ≡ map pos ns
  pub spelt : Spelt ns body at
  pub count : length ns ≡ numbers_in l

pub tail_of : (l : Letter) (body : List ℕ) (kept : List ℤ) (count at : ℕ) → count ≡ numbers_in l → (length kept ≡ 4) × ReadOff (take count kept) body at → TailOf l body kept at
tail_of l body kept count at is (four, (ns, read, s)) =
    let r : take (numbers_in l) kept ≡ map pos ns = ap (λ n. take n kept) (sym is) ∙ read in
    record { ns = ns; read = r; spelt = s; count = count_read l kept ns four r }

pub end-failed : (l : Letter) (body : List ℕ) (kept : List ℤ) (at : ℕ) (k : Ending) (s : Stop) → k ≡ ending_of l → TailOf l body kept at → EndFault k (take (length body - at) (drop at body)) s → FieldsFault l body (later at s) × (at + place_in s ≤ length body)
end-failed l body kept at k s is t f =
    let P : Ending → Type 0 = λ k. EndFault k (drop at body) s in
    let Q : List ℕ → Type 0 = λ xs. EndFault k xs s in
    let g : EndFault k (drop at body) s = subst Q (take_rest body at) f in
    let w = spelt_within t.ns body at t.spelt in
    (fault_of_end l body t.ns at s t.spelt t.count (subst P is g), omega (arith, end-within k (drop at body) s g, length-drop at body))

pub bid_second : (l : Letter) (body : List ℕ) (kept : List ℤ) (at : ℕ) → length kept ≡ 4 → TailOf l body kept at → l ≡ letter.Bid → pos 0 ≤ℤ get_or kept 1 (pos 0)
bid_second l body kept at e t is = second kept t.ns e (ap (λ k. take (numbers_in k) kept) (sym is) ∙ t.read)

pub whole : (l : Letter) (body : List ℕ) (start : ℕ × ℕ) (r : Record) (kept : List ℤ) (at : ℕ) (k : Ending) → length kept ≡ 4 → k ≡ ending_of l → TailOf l body kept at → Ends k (take (length body - at) (drop at body)) → letter_of r ≡ l → numbers_of r ≡ take (numbers_in l) kept → BorrowsTail r (take (length body - at) (drop at body)) (start.0, at + start.1) → ReadAs l body start r
whole l body start r kept at k e is t ends letter numbers b =
    let P : Ending → Type 0 = λ k. Ends k (drop at body) in
    let Q : List ℕ → Type 0 = λ xs. Ends k xs in
    let R : List ℕ → Type 0 = λ xs. BorrowsTail r xs (start.0, at + start.1) in
    read_as l body start r kept t.ns at e t.read t.spelt (subst P is (subst Q (take_rest body at) ends)) letter numbers (subst R (take_rest body at) b)

-- ---- a run of numbers has no broken one
pub unbroken : (ns ms rest : List ℕ) → AllByRecursion Short ns → AllByRecursion Short ms → flat_map groups ns ++ rest ≡ flat_map groups ms → Broken rest → ⊥
unbroken [] [] rest sn sm e b = b.0 e
unbroken [] (m ∷ ms) rest sn sm e b = b.1 m (flat_map groups ms) (sm.0, e)
unbroken (n ∷ ns) [] rest sn sm e b =
    omega (arith, ap length e, groups-some n, length-append (groups n ++ flat_map groups ns) rest, length-append (groups n) (flat_map groups ns))
unbroken (n ∷ ns) (m ∷ ms) rest sn sm e b =
    let s = one-spelling n m (flat_map groups ns ++ rest) (flat_map groups ms) sn.0 sm.0 (sym (append_assoc (groups n) (flat_map groups ns) rest) ∙ e) in
    unbroken ns ms rest sn.1 sm.1 s.1 b

pub run_broken : (bytes : List ℕ) (at : ℕ) → RunFrom bytes (Err (stop.Number at)) → Run bytes → ⊥
run_broken bytes at (ns, s, b) (ms, short, e) = unbroken ns ms (drop at bytes) s.short short (sym s.front ∙ e) b
