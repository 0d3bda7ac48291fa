-- A record's letter and length, read at a place of the sheet. Assumes nothing.
use Rattle.std.proofs.Common.{◌≡◌, ℕ, ◌+◌, ◌-◌, ◌^◌, ◌<◌, ◌≤◌, Bool, true, false, not, List, ◌∷◌, ◌++◌, length, get_or, take, drop, ltb, Some, None, Err, Option, sym, refl, ap, ◌∙◌, subst, arith}
use Rattle.std.specs.Bool.{beq}
use Rattle.std.specs.Cmp.{booleans_Decides}
use Rattle.std.specs.List.{flat_map}
use Rattle.std.proofs.lemmas.List.{append_assoc, drop_all, drop-drop, drop_more, length-append, length-drop, length-take-le, take-append-drop}
use Rattle.std.proofs.lemmas.Bool.{false≢true, ltb-true, ltb-false, not-false}
use Rattle.std.specs.Borrow.{Bor}
use Rattle.std.specs.Option.{IfSome, is_some}
use denote.Enum.Bare.{sameb}
use Rattle.day_sheet.specs.contracts.letter.Letter.{the_type}
use Rattle.day_sheet.specs.declared.letter.Letter.{Letter}
use Rattle.day_sheet.specs.declared.letter.Letter.TheVariants as letter
use Rattle.day_sheet.specs.Readings.{AskedAt}
use Rattle.day_sheet.specs.declared.fault.Stop.{Stop}
use Rattle.day_sheet.specs.declared.fault.Stop.TheVariants as stop
use Rattle.day_sheet.specs.Groups.{groups, Short, Begins}
use Rattle.day_sheet.specs.Letters.{byte_of, is_start}
use Rattle.day_sheet.specs.Faults.{later, place_in}
use Rattle.day_sheet.specs.Records.{fields, spell, RecordFault, FieldsFault, none, unknown, misplaced, no_length, bad_length, past, in_fields}
use Rattle.day_sheet.specs.Heads.{Headed, Stands}
use Rattle.day_sheet.specs.declared.record.Record.{Record}
use Rattle.day_sheet.specs.Holdings.{BorrowsTail, ReadAs}
use Rattle.day_sheet.proofs.Bodies.{fields_within}
use Rattle.day_sheet.proofs.Runs.{begins_room}

-- the test whether S is in its place
pub start_same : (r s f : Bool) → r ≡ s → not (beq r f) ≡ false → s ≡ f
start_same r s f e h = sym e ∙ (booleans_Decides r f).0 (not-false (beq r f) h)

pub start_apart : (r s f : Bool) → r ≡ s → not (beq r f) ≡ true → s ≡ f → ⊥
start_apart r s f e h g = let t = (booleans_Decides r f).1 (e ∙ g) in absurd (false≢true (sym (ap not t) ∙ h))

-- S is told from the other letters
pub start_is : (l : Letter) → sameb the_type l letter.Start ≡ is_start l
start_is letter.Start = refl
start_is letter.Admit = refl
start_is letter.Announce = refl
start_is letter.Bid = refl
start_is letter.Seal = refl
start_is letter.Publish = refl
start_is letter.Void = refl
start_is letter.Fix = refl
start_is letter.Lodge = refl
start_is letter.Release = refl
start_is letter.Terminate = refl

-- a byte stands at the place
pub record ByteAt (sheet : List ℕ) (at b : ℕ) : Type 0 where
  pub within : at < length sheet
  pub front : drop at sheet ≡ b ∷ drop (at + 1) sheet

pub byte_at : (sheet : List ℕ) (at : ℕ) (r : Option (Bor ℕ)) (x : Bor ℕ) → r ≡ Some x → is_some r ≡ ltb at (length sheet) → IfSome r (λ x. x.now ≡ get_or sheet at x.now) → ByteAt sheet at x.now
byte_at sheet at None x is within here = cc
byte_at sheet at (Some y) x is within here = subst (λ (b : Bor ℕ). ByteAt sheet at b.now) same of
  where
    same : y ≡ x
    same = cc

    of : ByteAt sheet at y.now
    of = let h = ltb-true at (length sheet) (sym within) in record { within = h; front = drop_more sheet at y.now h ∙ ap (λ b. b ∷ drop (at + 1) sheet) (sym here) }

-- a letter stands at the place
pub letter_at : (sheet : List ℕ) (at b : ℕ) (l : Letter) → ByteAt sheet at b → byte_of l ≡ b → drop at sheet ≡ byte_of l ∷ drop (at + 1) sheet
letter_at sheet at b l h e = h.front ∙ ap (λ b. b ∷ drop (at + 1) sheet) (sym e)

pub head_none : (sheet : List ℕ) (at : ℕ) (first : Bool) (r : Option (Bor ℕ)) → r ≡ None → is_some r ≡ ltb at (length sheet) → (length sheet ≤ at → first ≡ true) → RecordFault first (drop at sheet) stop.Record
head_none sheet at first None is within f = let h = ltb-false at (length sheet) (sym within) in none (f h) (drop_all at sheet h)
head_none sheet at first (Some x) is within f = cc

pub head_unknown : (sheet : List ℕ) (at b : ℕ) (first : Bool) → ByteAt sheet at b → ((l : Letter) → byte_of l ≡ b → ⊥) → RecordFault first (drop at sheet) stop.Record
head_unknown sheet at b first h f = unknown b (drop (at + 1) sheet) h.front f

-- a length is asked for, and none stands there
pub head_short : (sheet : List ℕ) (at : ℕ) (first : Bool) (l : Letter) (s : Stop) → drop at sheet ≡ byte_of l ∷ drop (at + 1) sheet → is_start l ≡ first → AskedAt sheet (at + 1) 1 (Err s) → RecordFault first (drop at sheet) s
head_short sheet at first l stop.Record e f h = no_length l (e ∙ ap (λ bs. byte_of l ∷ bs) (drop_all (at + 1) sheet h)) f
head_short sheet at first l (stop.Number place) e f (broken, is) =
    let P : ℕ → Type 0 = λ n. RecordFault first (drop at sheet) (stop.Number n) in
    subst P (sym is) (bad_length l (drop (at + 1) sheet) e f broken)

-- the letter and a length
pub record Lengthed (sheet : List ℕ) (at : ℕ) (l : Letter) (n len : ℕ) : Type 0 where
  pub spelled : drop at sheet ≡ byte_of l ∷ (groups n ++ drop (at + 1 + len) sheet)
  pub size : Short n
  pub place : len ≡ length (groups n)
  pub within : at + 1 + len ≤ length sheet

pub lengthed : (sheet : List ℕ) (at : ℕ) (l : Letter) (n len : ℕ) → drop at sheet ≡ byte_of l ∷ drop (at + 1) sheet → Begins (drop (at + 1) sheet) n (drop (at + 1 + len) sheet) × (len ≡ length (groups n)) → Lengthed sheet at l n len
lengthed sheet at l n len e (b, is) =
    record { spelled = e ∙ ap (λ bs. byte_of l ∷ bs) b.1; size = b.0; place = is; within = (begins_room sheet (at + 1) n len b is).0 }

pub head_past : (sheet : List ℕ) (at : ℕ) (first : Bool) (l : Letter) (n len : ℕ) → Lengthed sheet at l n len → is_start l ≡ first → length sheet - (at + 1 + len) < n → RecordFault first (drop at sheet) stop.Record
head_past sheet at first l n len s f h = past l n (drop (at + 1 + len) sheet) s.spelled f s.size (omega (arith, length-drop (at + 1 + len) sheet))

-- ---- the fields between the start and the end
pub record Bodied (sheet : List ℕ) (at : ℕ) (first : Bool) (l : Letter) (start next : ℕ) (body : List ℕ) : Type 0 where
  pub placed : is_start l ≡ first
  pub size_is : length body ≡ next - start
  pub order : start ≤ next
  pub within : next ≤ length sheet
  pub size : Short (length body)
  pub start_is : start ≡ at + 1 + length (groups (length body))
  pub spelled : drop at sheet ≡ byte_of l ∷ (groups (length body) ++ (body ++ drop next sheet))

pub bodied : (sheet : List ℕ) (at : ℕ) (first : Bool) (l : Letter) (start next : ℕ) → Headed sheet at first (record { letter = l; start = start; «end» = next }) → Bodied sheet at first l start next (take (next - start) (drop start sheet))
bodied sheet at first l start next h =
    let body = take (next - start) (drop start sheet) in
    let n : length body ≡ next - start = length-take-le (next - start) (drop start sheet) (omega (arith, h.within, length-drop start sheet)) in
    let split : drop start sheet ≡ body ++ drop next sheet = sym (take-append-drop (next - start) (drop start sheet)) ∙ ap (λ r. body ++ r) (drop-drop (next - start) start sheet ∙ ap (λ k. drop k sheet) (omega (arith, h.order))) in
    let P : ℕ → Type 0 = Short in
    record {
      placed = h.placed;
      size_is = n;
      order = h.order;
      within = h.within;
      size = subst P (sym n) h.size;
      start_is = h.start ∙ ap (λ m. at + 1 + length (groups m)) (sym n);
      spelled = h.spelled ∙ ap (λ m. byte_of l ∷ (groups m ++ drop start sheet)) (sym n) ∙ ap (λ r. byte_of l ∷ (groups (length body) ++ r)) split;
    }

pub record_failed : (sheet : List ℕ) (at : ℕ) (first : Bool) (l : Letter) (start next : ℕ) (body : List ℕ) (s : Stop) → Bodied sheet at first l start next body → FieldsFault l body s → RecordFault first (drop at sheet) (later (start - at) s) × (start - at + place_in s ≤ length sheet)
record_failed sheet at first l start next body s b f =
    let e : 1 + length (groups (length body)) ≡ start - at = omega (arith, b.start_is) in
    let P : ℕ → Type 0 = λ n. RecordFault first (drop at sheet) (later n s) in
    (subst P e (in_fields l body (drop next sheet) s b.spelled b.placed b.size f), omega (arith, b.order, b.within, b.size_is, fields_within l body s f))

pub stands : (sheet : List ℕ) (place : ℕ × ℕ) (at : ℕ) (first : Bool) (l : Letter) (start next : ℕ) (body : List ℕ) (r : Record) → Bodied sheet at first l start next body → ReadAs l body (place.0, start + place.1) r → Stands sheet place at first r next
stands sheet place at first l start next body r b a =
    let e = a.entry in
    let n : length body ≡ length (fields e) = ap length a.spelled in
    let P : ℕ → Type 0 = Short in
    let Q : ℕ → Type 0 = λ k. BorrowsTail r e.tail (place.0, k) in
    let spelled : drop at sheet ≡ spell e ++ drop next sheet =
    b.spelled
    ∙ ap (λ k. byte_of k ∷ (groups (length body) ++ (body ++ drop next sheet))) (sym a.letter)
    ∙ ap (λ xs. byte_of e.letter ∷ (groups (length xs) ++ (xs ++ drop next sheet))) a.spelled
    ∙ ap (λ xs. byte_of e.letter ∷ xs) (sym (append_assoc (groups (length (fields e))) (fields e) (drop next sheet))) in
    let size : length (spell e) ≡ 1 + length (groups (length body)) + length body = omega (arith, length-append (groups (length (fields e))) (fields e), ap (λ k. length (groups k)) n) in
    record {
      entry = e;
      says = a.says;
      sound = record { complete = a.complete; size = subst P n b.size };
      placed = ap is_start a.letter ∙ b.placed;
      spelled = spelled;
      length-is = omega (arith, b.start_is, b.size_is, b.order);
      within = b.within;
      borrows = subst Q (omega (arith, b.size_is, b.order, n, length-append (flat_map groups e.numbers) e.tail)) a.borrows;
    }

-- a fault lies within what is left of the sheet
pub record_within : (first : Bool) (bytes : List ℕ) (s : Stop) → RecordFault first bytes s → place_in s ≤ length bytes
record_within first bytes _ (none f e) = omega arith
record_within first bytes _ (unknown b rest e f) = omega arith
record_within first bytes _ (misplaced l rest e f) = omega arith
record_within first bytes _ (no_length l e f) = omega arith
record_within first bytes _ (bad_length l rest e f b) = omega (arith, ap length e)
record_within first bytes _ (past l n rest e f short h) = omega arith
record_within first bytes _ (in_fields l body rest s e f short g) =
    let n = ap length e in
    omega (arith, length-append (groups (length body)) (body ++ rest), length-append body rest, fields_within l body s g, place_later (1 + length (groups (length body))) s)
  where
    place_later : (by : ℕ) (s : Stop) → place_in (later by s) ≤ by + place_in s
    place_later by stop.Record = omega arith
    place_later by (stop.Number at) = omega arith

pub fault_fits : (first : Bool) (sheet : List ℕ) (at : ℕ) (s : Stop) → RecordFault first (drop at sheet) s → at < 2 ^ 64 → length sheet < 2 ^ 64 → at + place_in s < 2 ^ 64
fault_fits first sheet at s f a l = omega (arith, record_within first (drop at sheet) s f, length-drop at sheet)
