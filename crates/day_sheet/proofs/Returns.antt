-- What was written can be read back, and what was read is written the same. Assumes nothing.
use Rattle.std.proofs.Common.{◌≡◌, ℕ, ◌+◌, min, Bool, true, false, not, ◌&&◌, eqb, List, [], ◌∷◌, map, length, ℤ, pos, nat_abs, None, refl, ap, ◌∙◌, arith}
use Rattle.std.specs.Bool.{beq}
use Rattle.std.specs.Cmp.{booleans_Decides}
use Rattle.std.specs.List.{list_all, AllByRecursion}
use Rattle.std.proofs.lemmas.List.{length-append, length-map}
use Rattle.std.proofs.lemmas.Bool.{and_parts, or_parts, not-false, ltb-false}
use Rattle.terms.specs.declared.refusal.Refusal.{Refusal}
use Rattle.terms.specs.Refusals.{first}
use Rattle.day_sheet.specs.declared.record.Record.{Record}
use Rattle.day_sheet.specs.declared.record.Record.TheVariants.{Start, Admit, Announce, Bid, Seal, Publish, Void, Fix, Lodge, Release, Terminate}
use Rattle.day_sheet.specs.Groups.{groups, Short}
use Rattle.day_sheet.specs.Letters.{numbers_in, ending_of, is_start}
use Rattle.day_sheet.specs.Records.{Ends, fields, spell}
use Rattle.day_sheet.specs.Holdings.{letter_of, numbers_of, record_tail}
use Rattle.day_sheet.specs.Writings.{holdable}
use Rattle.day_sheet.specs.Entries.{is_long}
use Rattle.day_sheet.specs.Parts.{RunOf}
use Rattle.day_sheet.specs.Writer.{entry_of, ReadsBack, WritesAgain}
use Rattle.day_sheet.proofs.Spelling.{groups-few}
use Rattle.day_sheet.proofs.Held.{held_natural, held_short}

none_first : (x y z : Refusal) (a b c : Bool) → first ((x, a) ∷ (y, b) ∷ (z, c) ∷ []) ≡ None → (a ≡ false) × (b ≡ false) × (c ≡ false)
none_first x y z true b c e = absurd (grind arith)
none_first x y z false true c e = absurd (grind arith)
none_first x y z false false true e = absurd (grind arith)
none_first x y z false false false e = (refl, refl, refl)

all_short : (zs : List ℤ) → list_all holdable zs ≡ true → AllByRecursion Short (map nat_abs zs)
all_short [] e = tt
all_short (z ∷ zs) e = let p = and_parts (holdable z) (list_all holdable zs) e in (held_short z p.0, all_short zs p.1)

all_natural : (zs : List ℤ) → list_all holdable zs ≡ true → zs ≡ map pos (map nat_abs zs)
all_natural [] e = refl
all_natural (z ∷ zs) e =
    let p = and_parts (holdable z) (list_all holdable zs) e in
    ap (λ y. y ∷ zs) (held_natural z p.0) ∙ ap (λ ys. pos (nat_abs z) ∷ ys) (all_natural zs p.1)

count_of : (r : Record) → length (numbers_of r) ≡ numbers_in (letter_of r)
count_of (Start day percent holidays) = refl
count_of (Admit institution) = refl
count_of (Announce kind offer cap' maturity) = refl
count_of (Bid institution price millions reference) = refl
count_of Seal = refl
count_of Publish = refl
count_of Void = refl
count_of (Fix day rate) = refl
count_of (Lodge institution centavos) = refl
count_of (Release institution centavos) = refl
count_of (Terminate hedge) = refl

ends_of : (r : Record) → RunOf (letter_of r) (record_tail r) → is_long (letter_of r) (record_tail r) ≡ false → Ends (ending_of (letter_of r)) (record_tail r)
ends_of (Start day percent holidays) run short = run
ends_of (Admit institution) run short = refl
ends_of (Announce kind offer cap' maturity) run short = refl
ends_of (Bid institution price millions reference) run short = ltb-false 24 _ short
ends_of Seal run short = refl
ends_of Publish run short = refl
ends_of Void run short = refl
ends_of (Fix day rate) run short = refl
ends_of (Lodge institution centavos) run short = refl
ends_of (Release institution centavos) run short = refl
ends_of (Terminate hedge) run short = refl

pub reads_back : ReadsBack
reads_back r run room used decides accepted =
    let t = none_first _ _ _ _ _ _ accepted in
    let held = and_parts (list_all holdable (numbers_of r)) run (not-false (list_all holdable (numbers_of r) && run) t.0) in
    let place = or_parts (is_long (letter_of r) (record_tail r)) (not (beq (is_start (letter_of r)) (eqb used 0))) t.1 in
    let size = ltb-false (min room 65536) (used + length (spell (entry_of r))) t.2 in
    let n = length-append (groups (length (fields (entry_of r)))) (fields (entry_of r)) in
    let few : Short (length (fields (entry_of r))) = let m = groups-few 2 (length (fields (entry_of r))) (omega arith) in omega arith in
    record {
      sound = record {
        complete = record { count = length-map (numbers_of r) nat_abs ∙ count_of r; short = all_short (numbers_of r) held.0; ends = ends_of r (decides.0 held.1) place.0 };
        size = few;
      };
      says = record { letter = refl; numbers = all_natural (numbers_of r) held.0; tail = refl };
      placed = (booleans_Decides (is_start (letter_of r)) (eqb used 0)).0 (not-false (beq (is_start (letter_of r)) (eqb used 0)) place.1);
    }

natural_back : (ns : List ℕ) → map nat_abs (map pos ns) ≡ ns
natural_back [] = refl
natural_back (n ∷ ns) = ap (λ ms. n ∷ ms) (natural_back ns)

pub writes_again : WritesAgain
writes_again r e says =
    let n : map nat_abs (numbers_of r) ≡ e.numbers = ap (map nat_abs) says.numbers ∙ natural_back e.numbers in
    ap (λ l. spell (record { letter = l; numbers = map nat_abs (numbers_of r); tail = record_tail r })) says.letter
    ∙ ap (λ ns. spell (record { letter = e.letter; numbers = ns; tail = record_tail r })) n
    ∙ ap (λ t. spell (record { letter = e.letter; numbers = e.numbers; tail = t })) says.tail
