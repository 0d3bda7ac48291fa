-- What can stand at a place of a sheet: one record, or one fault, and never both. Assumes nothing.
use Rattle.std.proofs.Common.{◌≡◌, ℕ, zero, suc, ◌+◌, ◌-◌, ◌<◌, ◌≤◌, Bool, true, false, cond, eqb, ltb, List, [], ◌∷◌, ◌++◌, length, take, drop, Some, None, Option, sym, refl, ap, ◌∙◌, arith}
use Rattle.std.specs.Bool.{beq}
use Rattle.std.specs.Cmp.{booleans_Decides}
use Rattle.std.specs.List.{flat_map, AllByRecursion}
use Rattle.std.proofs.lemmas.List.{append_assoc, append-nil, drop_at, take_at, length-append, length-take-le, take-append-drop}
use Rattle.std.proofs.ByRecursion.{All-take, All-drop}
use Rattle.std.proofs.lemmas.Bool.{cond-true, cond-false, lt-ltb, le-ltb, ne_eqb}
use Rattle.day_sheet.specs.declared.letter.Letter.{Letter}
use Rattle.day_sheet.specs.declared.letter.Letter.TheVariants.{Start, Admit, Announce, Bid, Seal, Publish, Void, Fix, Lodge, Release, Terminate}
use Rattle.day_sheet.specs.declared.letter.Ending.{Ending}
use Rattle.day_sheet.specs.declared.letter.Ending.TheVariants.{Nothing, Holidays, Reference}
use Rattle.day_sheet.specs.declared.fault.Stop.{Stop}
use Rattle.day_sheet.specs.declared.fault.Stop.TheVariants.{Record, Number}
use Rattle.day_sheet.specs.Groups.{groups, Short, Broken}
use Rattle.day_sheet.specs.Readings.{number_by}
use Rattle.day_sheet.specs.Letters.{byte_of, numbers_in, ending_of, is_start}
use Rattle.day_sheet.specs.Faults.{later}
use Rattle.day_sheet.specs.Records.{Entry, Run, Ends, fields, spell, Complete, Sound, FieldsFault, missing, broken, left_over, long, holiday, RecordFault, none, unknown, misplaced, no_length, bad_length, past, in_fields}
use Rattle.day_sheet.proofs.Spelling.{groups-some, number_groups, number_spelled}
use Rattle.std.proofs.lemmas.Grind.{flat_map-append}

-- ---- numbers from the front on
data Got : Type 0 where
  got : List ℕ → List ℕ → Got
  lost : Stop → Got

abbrev ahead : ℕ → Got → Got
ahead n (got ns tail) = got (n ∷ ns) tail
ahead n (lost s) = lost (later (length (groups n)) s)

abbrev stop_at : List ℕ → Stop
stop_at [] = Record
stop_at (b ∷ bytes) = Number 0

abbrev number_then : (List ℕ → Got) → (bytes : List ℕ) → Option (ℕ × ℕ) → Got
number_then f bytes None = lost (stop_at bytes)
number_then f bytes (Some p) = ahead p.0 (f (drop p.1 bytes))

abbrev numbers_for : (count : ℕ) (bytes : List ℕ) → Got
numbers_for zero bytes = got [] bytes
numbers_for (suc count) bytes = number_then (λ r. numbers_for count r) bytes (number_by 9 bytes)

abbrev aheads : List ℕ → Got → Got
aheads [] o = o
aheads (n ∷ ns) o = ahead n (aheads ns o)

-- a broken number is read as none
broken_none : (rest : List ℕ) → Broken rest → number_by 9 rest ≡ None
broken_none rest b = go (number_by 9 rest) refl
  where
    go : (o : Option (ℕ × ℕ)) → number_by 9 rest ≡ o → number_by 9 rest ≡ None
    go None e = e
    go (Some (n, len)) e = let s = number_spelled 9 rest n len e in absurd (b.1 n (drop len rest) (s.few, s.front))

numbers-ahead : (ns : List ℕ) (count : ℕ) (rest : List ℕ) → AllByRecursion Short ns → numbers_for (length ns + count) (flat_map groups ns ++ rest) ≡ aheads ns (numbers_for count rest)
numbers-ahead [] count rest short = let e : 0 + count ≡ count = omega arith in ap (λ k. numbers_for k rest) e
numbers-ahead (n ∷ ns) count rest short =
    let bytes = groups n ++ (flat_map groups ns ++ rest) in
    let e : suc (length ns) + count ≡ suc (length ns + count) = omega arith in
    let a : (groups n ++ flat_map groups ns) ++ rest ≡ bytes = append_assoc (groups n) (flat_map groups ns) rest in
    let p : number_by 9 bytes ≡ Some (n, length (groups n)) = number_groups 9 n (flat_map groups ns ++ rest) short.0 in
    let d : drop (length (groups n)) bytes ≡ flat_map groups ns ++ rest = drop_at (groups n) (flat_map groups ns ++ rest) (length (groups n)) refl in
    ap (λ k. numbers_for k ((groups n ++ flat_map groups ns) ++ rest)) e
    ∙ ap (numbers_for (suc (length ns + count))) a
    ∙ ap (number_then (numbers_for (length ns + count)) bytes) p
    ∙ ap (λ r. ahead n (numbers_for (length ns + count) r)) d
    ∙ ap (ahead n) (numbers-ahead ns count rest short.1)

aheads-got : (ns : List ℕ) (tail : List ℕ) → aheads ns (got [] tail) ≡ got ns tail
aheads-got [] tail = refl
aheads-got (n ∷ ns) tail = ap (ahead n) (aheads-got ns tail)

later-later : (a b : ℕ) (s : Stop) → later a (later b s) ≡ later (a + b) s
later-later a b Record = refl
later-later a b (Number at) = ap (λ n. Number n) (omega arith)

aheads-lost : (ns : List ℕ) (s : Stop) → aheads ns (lost s) ≡ lost (later (length (flat_map groups ns)) s)
aheads-lost [] Record = refl
aheads-lost [] (Number at) = ap (λ n. lost (Number n)) (omega arith)
aheads-lost (n ∷ ns) s =
    ap (ahead n) (aheads-lost ns s)
    ∙ ap lost (later-later (length (groups n)) (length (flat_map groups ns)) s)
    ∙ ap (λ k. lost (later k s)) (sym (length-append (groups n) (flat_map groups ns)))

numbers-got : (ns tail : List ℕ) (count : ℕ) → AllByRecursion Short ns → length ns ≡ count → numbers_for count (flat_map groups ns ++ tail) ≡ got ns tail
numbers-got ns tail count short is =
    ap (λ k. numbers_for k (flat_map groups ns ++ tail)) (omega arith) ∙ numbers-ahead ns 0 tail short ∙ aheads-got ns tail

-- fewer numbers than asked for, and then none
numbers-lost : (ns rest : List ℕ) (count : ℕ) → AllByRecursion Short ns → length ns < count → number_by 9 rest ≡ None → numbers_for count (flat_map groups ns ++ rest) ≡ lost (later (length (flat_map groups ns)) (stop_at rest))
numbers-lost ns rest count short few e =
    let k : count ≡ length ns + suc (count - length ns - 1) = omega arith in
    ap (λ c. numbers_for c (flat_map groups ns ++ rest)) k
    ∙ numbers-ahead ns (suc (count - length ns - 1)) rest short
    ∙ ap (λ o. aheads ns (number_then (numbers_for (count - length ns - 1)) rest o)) e
    ∙ aheads-lost ns (stop_at rest)

-- ---- the end
abbrev later_if : ℕ → Option Stop → Option Stop
later_if by None = None
later_if by (Some s) = Some (later by s)

abbrev broken_at : List ℕ → Option Stop
broken_at [] = None
broken_at (b ∷ bytes) = Some (Number 0)

abbrev run_then : (List ℕ → Option Stop) → (bytes : List ℕ) → Option (ℕ × ℕ) → Option Stop
run_then f bytes None = broken_at bytes
run_then f bytes (Some p) = later_if (length (groups p.0)) (f (drop p.1 bytes))

abbrev run_stop : (turns : ℕ) (bytes : List ℕ) → Option Stop
run_stop zero bytes = None
run_stop (suc turns) bytes = run_then (λ r. run_stop turns r) bytes (number_by 9 bytes)

later-none : (s : Stop) → later 0 s ≡ s
later-none Record = refl
later-none (Number at) = ap (λ n. Number n) (omega arith)

later_if-none : (o : Option Stop) → later_if 0 o ≡ o
later_if-none None = refl
later_if-none (Some s) = ap (λ s. Some s) (later-none s)

later_if-more : (a b : ℕ) (o : Option Stop) → later_if a (later_if b o) ≡ later_if (a + b) o
later_if-more a b None = refl
later_if-more a b (Some s) = ap (λ s. Some s) (later-later a b s)

run_ahead : (ms : List ℕ) (turns : ℕ) (rest : List ℕ) → AllByRecursion Short ms → run_stop (length ms + turns) (flat_map groups ms ++ rest) ≡ later_if (length (flat_map groups ms)) (run_stop turns rest)
run_ahead [] turns rest short = let e : 0 + turns ≡ turns = omega arith in ap (λ k. run_stop k rest) e ∙ sym (later_if-none (run_stop turns rest))
run_ahead (m ∷ ms) turns rest short =
    let bytes = groups m ++ (flat_map groups ms ++ rest) in
    let e : suc (length ms) + turns ≡ suc (length ms + turns) = omega arith in
    let p : number_by 9 bytes ≡ Some (m, length (groups m)) = number_groups 9 m (flat_map groups ms ++ rest) short.0 in
    let d : drop (length (groups m)) bytes ≡ flat_map groups ms ++ rest = drop_at (groups m) (flat_map groups ms ++ rest) (length (groups m)) refl in
    ap (λ k. run_stop k ((groups m ++ flat_map groups ms) ++ rest)) e
    ∙ ap (run_stop (suc (length ms + turns))) (append_assoc (groups m) (flat_map groups ms) rest)
    ∙ ap (run_then (run_stop (length ms + turns)) bytes) p
    ∙ ap (λ r. later_if (length (groups m)) (run_stop (length ms + turns) r)) d
    ∙ ap (later_if (length (groups m))) (run_ahead ms turns rest short.1)
    ∙ later_if-more (length (groups m)) (length (flat_map groups ms)) (run_stop turns rest)
    ∙ ap (λ k. later_if k (run_stop turns rest)) (sym (length-append (groups m) (flat_map groups ms)))

run_empty : (turns : ℕ) → run_stop turns [] ≡ None
run_empty zero = refl
run_empty (suc turns) = refl

joined_least : (ns : List ℕ) → length ns ≤ length (flat_map groups ns)
joined_least [] = omega arith
joined_least (n ∷ ns) = omega (arith, joined_least ns, groups-some n, length-append (groups n) (flat_map groups ns))

some_bytes : (rest : List ℕ) → (rest ≡ [] → ⊥) → (1 ≤ length rest) × (stop_at rest ≡ Number 0) × (broken_at rest ≡ Some (Number 0))
some_bytes [] f = absurd (f refl)
some_bytes (b ∷ rest) f = (omega arith, refl, refl)

run_whole : (tail : List ℕ) → Run tail → run_stop (length tail) tail ≡ None
run_whole tail (ms, short, e) =
    let k : length tail ≡ length ms + (length tail - length ms) = omega (arith, joined_least ms, ap length e) in
    ap (λ n. run_stop n tail) k
    ∙ ap (run_stop (length ms + (length tail - length ms))) (e ∙ sym (append-nil (flat_map groups ms)))
    ∙ run_ahead ms (length tail - length ms) [] short
    ∙ ap (later_if (length (flat_map groups ms))) (run_empty (length tail - length ms))

run_stops : (tail ms rest : List ℕ) → AllByRecursion Short ms → tail ≡ flat_map groups ms ++ rest → Broken rest → run_stop (length tail) tail ≡ Some (Number (length (flat_map groups ms)))
run_stops tail ms rest short e b =
    let f = some_bytes rest b.0 in
    let t = length tail - length ms - 1 in
    let k : length tail ≡ length ms + suc (length tail - length ms - 1) = omega (arith, joined_least ms, ap length e, length-append (flat_map groups ms) rest, f.0) in
    ap (λ n. run_stop n tail) k
    ∙ ap (run_stop (length ms + suc t)) e
    ∙ run_ahead ms (suc t) rest short
    ∙ ap (λ o. later_if (length (flat_map groups ms)) (run_then (run_stop t) rest o)) (broken_none rest b)
    ∙ ap (later_if (length (flat_map groups ms))) f.2
    ∙ ap (λ n. Some (Number n)) (omega arith)

abbrev tail_stop : List ℕ → Option Stop
tail_stop [] = None
tail_stop (b ∷ tail) = Some Record

abbrev end_stop : Ending → (tail : List ℕ) → Option Stop
end_stop Nothing tail = tail_stop tail
end_stop Holidays tail = run_stop (length tail) tail
end_stop Reference tail = cond (ltb 24 (length tail)) (Some Record) None

end_whole : (k : Ending) (tail : List ℕ) → Ends k tail → end_stop k tail ≡ None
end_whole Nothing tail e = ap tail_stop e
end_whole Holidays tail run = run_whole tail run
end_whole Reference tail few = cond-false _ _ _ (le-ltb 24 (length tail) few)

left_some : (rest : List ℕ) → (rest ≡ [] → ⊥) → tail_stop rest ≡ Some Record
left_some [] f = absurd (f refl)
left_some (b ∷ rest) f = refl

-- ---- the fields
abbrev ended : (ns tail : List ℕ) → Option Stop → Got
ended ns tail None = got ns tail
ended ns tail (Some s) = lost (later (length (flat_map groups ns)) s)

abbrev finished : Letter → Got → Got
finished l (lost s) = lost s
finished l (got ns tail) = ended ns tail (end_stop (ending_of l) tail)

abbrev fields_out : Letter → (body : List ℕ) → Got
fields_out l body = finished l (numbers_for (numbers_in l) body)

fields-got : (e : Entry) → Complete e → fields_out e.letter (fields e) ≡ got e.numbers e.tail
fields-got e c =
    ap (finished e.letter) (numbers-got e.numbers e.tail (numbers_in e.letter) c.short c.count)
    ∙ ap (ended e.numbers e.tail) (end_whole (ending_of e.letter) e.tail c.ends)

fields-end : (l : Letter) (body ns rest : List ℕ) (k : Ending) (s : Stop) → AllByRecursion Short ns → body ≡ flat_map groups ns ++ rest → length ns ≡ numbers_in l → ending_of l ≡ k → end_stop k rest ≡ Some s → fields_out l body ≡ lost (later (length (flat_map groups ns)) s)
fields-end l body ns rest k s short e count is stop =
    ap (fields_out l) e
    ∙ ap (finished l) (numbers-got ns rest (numbers_in l) short count)
    ∙ ap (λ k. ended ns rest (end_stop k rest)) is
    ∙ ap (ended ns rest) stop

fields-lost : (l : Letter) (body : List ℕ) (s : Stop) → FieldsFault l body s → fields_out l body ≡ lost s
fields-lost l body _ (missing ns short e few) =
    ap (fields_out l) (e ∙ sym (append-nil (flat_map groups ns))) ∙ ap (finished l) (numbers-lost ns [] (numbers_in l) short few refl)
fields-lost l body _ (broken ns rest short e few b) =
    let f = some_bytes rest b.0 in
    ap (fields_out l) e
    ∙ ap (finished l) (numbers-lost ns rest (numbers_in l) short few (broken_none rest b))
    ∙ ap (λ s. lost (later (length (flat_map groups ns)) s)) f.1
    ∙ ap (λ n. lost (Number n)) (omega arith)
fields-lost l body _ (left_over ns rest short e count is f) = fields-end l body ns rest Nothing Record short e count is (left_some rest f)
fields-lost l body _ (long ns rest short e count is f) = fields-end l body ns rest Reference Record short e count is (cond-true _ _ _ (lt-ltb 24 (length rest) f))
fields-lost l body _ (holiday ns rest short e count is b) =
    let c = numbers_in l in
    let front = take c ns in
    let more = drop c ns in
    let j : flat_map groups ns ≡ flat_map groups front ++ flat_map groups more = ap (flat_map groups) (sym (take-append-drop c ns)) ∙ flat_map-append groups front more in
    let g : body ≡ flat_map groups front ++ (flat_map groups more ++ rest) = e ∙ ap (λ x. x ++ rest) j ∙ append_assoc (flat_map groups front) (flat_map groups more) rest in
    let n : length front ≡ numbers_in l = length-take-le c ns count in
    fields-end l body front (flat_map groups more ++ rest) Holidays (Number (length (flat_map groups more))) (All-take Short c ns short) g n is (run_stops (flat_map groups more ++ rest) more rest (All-drop Short c ns short) refl b)
    ∙ ap (λ k. lost (Number k)) (omega (arith, ap length j, length-append (flat_map groups front) (flat_map groups more)))

-- ---- a record
data Out : Type 0 where
  good : Entry → List ℕ → Out
  bad : Stop → Out

abbrev letter_in : ℕ → Option Letter
letter_in b =
    cond (eqb b 83) (Some Start) (
    cond (eqb b 73) (Some Admit) (
    cond (eqb b 65) (Some Announce) (
    cond (eqb b 66) (Some Bid) (
    cond (eqb b 67) (Some Seal) (
    cond (eqb b 80) (Some Publish) (
    cond (eqb b 86) (Some Void) (
    cond (eqb b 70) (Some Fix) (
    cond (eqb b 71) (Some Lodge) (
    cond (eqb b 82) (Some Release) (
    cond (eqb b 84) (Some Terminate) None))))))))))

letter_is : (l : Letter) → letter_in (byte_of l) ≡ Some l
letter_is Start = refl
letter_is Admit = refl
letter_is Announce = refl
letter_is Bid = refl
letter_is Seal = refl
letter_is Publish = refl
letter_is Void = refl
letter_is Fix = refl
letter_is Lodge = refl
letter_is Release = refl
letter_is Terminate = refl

letter_none : (b : ℕ) → ((l : Letter) → byte_of l ≡ b → ⊥) → letter_in b ≡ None
letter_none b f =
    cond-false _ _ _ (ne_eqb b 83 (λ e. f Start (sym e)))
    ∙ cond-false _ _ _ (ne_eqb b 73 (λ e. f Admit (sym e)))
    ∙ cond-false _ _ _ (ne_eqb b 65 (λ e. f Announce (sym e)))
    ∙ cond-false _ _ _ (ne_eqb b 66 (λ e. f Bid (sym e)))
    ∙ cond-false _ _ _ (ne_eqb b 67 (λ e. f Seal (sym e)))
    ∙ cond-false _ _ _ (ne_eqb b 80 (λ e. f Publish (sym e)))
    ∙ cond-false _ _ _ (ne_eqb b 86 (λ e. f Void (sym e)))
    ∙ cond-false _ _ _ (ne_eqb b 70 (λ e. f Fix (sym e)))
    ∙ cond-false _ _ _ (ne_eqb b 71 (λ e. f Lodge (sym e)))
    ∙ cond-false _ _ _ (ne_eqb b 82 (λ e. f Release (sym e)))
    ∙ cond-false _ _ _ (ne_eqb b 84 (λ e. f Terminate (sym e)))

abbrev body_then : Letter → ℕ → (rest : List ℕ) → Got → Out
body_then l by rest (got ns tail) = good (record { letter = l; numbers = ns; tail = tail }) rest
body_then l by rest (lost s) = bad (later by s)

abbrev sized : Letter → (n by : ℕ) (rest : List ℕ) → Out
sized l n by rest = cond (ltb (length rest) n) (bad Record) (body_then l by (drop n rest) (fields_out l (take n rest)))

abbrev length_then : Letter → (rest : List ℕ) → Option (ℕ × ℕ) → Out
length_then l rest None = bad (later 1 (stop_at rest))
length_then l rest (Some p) = sized l p.0 (1 + p.1) (drop p.1 rest)

abbrev letter_then : Bool → (rest : List ℕ) → Option Letter → Out
letter_then first rest None = bad Record
letter_then first rest (Some l) = cond (beq (is_start l) first) (length_then l rest (number_by 9 rest)) (bad Record)

abbrev out : Bool → (bytes : List ℕ) → Out
out first [] = bad Record
out first (b ∷ rest) = letter_then first rest (letter_in b)

apart_beq : (a b : Bool) → (a ≡ b → ⊥) → beq a b ≡ false
apart_beq true true f = absurd (f refl)
apart_beq true false f = refl
apart_beq false true f = refl
apart_beq false false f = absurd (f refl)

-- after a letter in its place
after_letter : (first : Bool) (l : Letter) (rest : List ℕ) → is_start l ≡ first → out first (byte_of l ∷ rest) ≡ length_then l rest (number_by 9 rest)
after_letter first l rest f = ap (letter_then first rest) (letter_is l) ∙ cond-true _ _ _ ((booleans_Decides (is_start l) first).1 f)

after_length : (first : Bool) (l : Letter) (n : ℕ) (rest : List ℕ) → is_start l ≡ first → Short n → out first (byte_of l ∷ (groups n ++ rest)) ≡ sized l n (1 + length (groups n)) rest
after_length first l n rest f short =
    after_letter first l (groups n ++ rest) f
    ∙ ap (length_then l (groups n ++ rest)) (number_groups 9 n rest short)
    ∙ ap (sized l n (1 + length (groups n))) (drop_at (groups n) rest (length (groups n)) refl)

after_body : (first : Bool) (l : Letter) (body rest : List ℕ) → is_start l ≡ first → Short (length body) → out first (byte_of l ∷ (groups (length body) ++ (body ++ rest))) ≡ body_then l (1 + length (groups (length body))) rest (fields_out l body)
after_body first l body rest f short =
    after_length first l (length body) (body ++ rest) f short
    ∙ cond-false _ _ _ (le-ltb (length (body ++ rest)) (length body) (omega (arith, length-append body rest)))
    ∙ ap (λ r. body_then l (1 + length (groups (length body))) r (fields_out l (take (length body) (body ++ rest)))) (drop_at body rest (length body) refl)
    ∙ ap (λ b. body_then l (1 + length (groups (length body))) rest (fields_out l b)) (take_at body rest (length body) refl)

out-good : (first : Bool) (e : Entry) (rest : List ℕ) → Sound e → is_start e.letter ≡ first → out first (spell e ++ rest) ≡ good e rest
out-good first e rest s f =
    ap (λ bs. out first (byte_of e.letter ∷ bs)) (append_assoc (groups (length (fields e))) (fields e) rest)
    ∙ after_body first e.letter (fields e) rest f s.size
    ∙ ap (body_then e.letter (1 + length (groups (length (fields e)))) rest) (fields-got e s.complete)

out-bad : (first : Bool) (bytes : List ℕ) (s : Stop) → RecordFault first bytes s → out first bytes ≡ bad s
out-bad first bytes _ (none f e) = ap (out first) e
out-bad first bytes _ (unknown b rest e f) = ap (out first) e ∙ ap (letter_then first rest) (letter_none b f)
out-bad first bytes _ (misplaced l rest e f) = ap (out first) e ∙ ap (letter_then first rest) (letter_is l) ∙ cond-false _ _ _ (apart_beq (is_start l) first f)
out-bad first bytes _ (no_length l e f) = ap (out first) e ∙ after_letter first l [] f
out-bad first bytes _ (bad_length l rest e f b) =
    ap (out first) e
    ∙ after_letter first l rest f
    ∙ ap (length_then l rest) (broken_none rest b)
    ∙ ap (λ s. bad (later 1 s)) (some_bytes rest b.0).1
out-bad first bytes _ (past l n rest e f short h) = ap (out first) e ∙ after_length first l n rest f short ∙ cond-true _ _ _ (lt-ltb (length rest) n h)
out-bad first bytes _ (in_fields l body rest s e f short g) =
    ap (out first) e ∙ after_body first l body rest f short ∙ ap (body_then l (1 + length (groups (length body))) rest) (fields-lost l body s g)

stop_of : Out → Stop
stop_of (good e rest) = Record
stop_of (bad s) = s

entry_in : Out → Entry → Entry
entry_in (good e rest) d = e
entry_in (bad s) d = d

rest_in : Out → List ℕ
rest_in (good e rest) = rest
rest_in (bad s) = []

is_good : Out → ℕ
is_good (good e rest) = 1
is_good (bad s) = 0

-- a place has one record, one fault, and never both
pub one-fault : (first : Bool) (bytes : List ℕ) (s t : Stop) → RecordFault first bytes s → RecordFault first bytes t → s ≡ t
unfolding stop_of
one-fault first bytes s t f g = ap stop_of (sym (out-bad first bytes s f) ∙ out-bad first bytes t g)

pub one-record : (first : Bool) (d e : Entry) (x y : List ℕ) → Sound d → Sound e → is_start d.letter ≡ first → is_start e.letter ≡ first → spell d ++ x ≡ spell e ++ y → (d ≡ e) × (x ≡ y)
unfolding entry_in rest_in
one-record first d e x y sd se fd fe same =
    let o : good d x ≡ good e y = sym (out-good first d x sd fd) ∙ ap (out first) same ∙ out-good first e y se fe in
    (ap (λ o. entry_in o d) o, ap rest_in o)

pub not-both : (first : Bool) (e : Entry) (bytes rest : List ℕ) (s : Stop) → Sound e → is_start e.letter ≡ first → bytes ≡ spell e ++ rest → RecordFault first bytes s → ⊥
unfolding is_good
not-both first e bytes rest s sound f same fault =
    let o : good e rest ≡ bad s = sym (out-good first e rest sound f) ∙ ap (out first) (sym same) ∙ out-bad first bytes s fault in
    let z = ap is_good o in
    omega (arith, z)

-- after the first record the end of the sheet is no fault
pub no-fault_at_end : (bytes : List ℕ) (s : Stop) → bytes ≡ [] → RecordFault false bytes s → ⊥
no-fault_at_end bytes _ z (none f e) = grind arith
no-fault_at_end bytes _ z (unknown b rest e f) = omega (arith, ap length (sym z ∙ e))
no-fault_at_end bytes _ z (misplaced l rest e f) = omega (arith, ap length (sym z ∙ e))
no-fault_at_end bytes _ z (no_length l e f) = omega (arith, ap length (sym z ∙ e))
no-fault_at_end bytes _ z (bad_length l rest e f b) = omega (arith, ap length (sym z ∙ e))
no-fault_at_end bytes _ z (past l n rest e f short h) = omega (arith, ap length (sym z ∙ e))
no-fault_at_end bytes _ z (in_fields l body rest s e f short g) = omega (arith, ap length (sym z ∙ e))
