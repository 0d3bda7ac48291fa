-- A sheet read to its end or to its first fault. Assumes nothing.
use Rattle.std.proofs.Common.{◌≡◌, ℕ, ◌≤◌, false, eqb, List, [], ◌∷◌, ◌++◌, length, drop, sym, ap, ◌∙◌, arith}
use Rattle.std.specs.List.{flat_map, AllByRecursion}
use Rattle.std.proofs.lemmas.List.{append_assoc, flat_map_more, length-append, length_push}
use Rattle.std.proofs.ByRecursion.{All-push}
use Rattle.std.proofs.lemmas.Bool.{ne_eqb}
use Rattle.day_sheet.specs.declared.reader.Reader.{Reader}
use Rattle.day_sheet.specs.declared.reader.Placed.{Placed}
use Rattle.day_sheet.specs.Letters.{is_start}
use Rattle.day_sheet.specs.Records.{Entry, spell, Sound}
use Rattle.day_sheet.specs.Sheets.{Passed}
use Rattle.day_sheet.specs.Verdicts.{StartFirst}

-- the reader has read these records
pub record Along (sheet : List ℕ) (d : Reader) (records : ℕ) : Type 0 where
  pub es : List Entry
  pub same : d.sheet.now ≡ sheet
  pub over : d.over ≡ false
  pub spelled : sheet ≡ flat_map spell es ++ drop d.at sheet
  pub place : d.at ≡ length (flat_map spell es)
  pub count : d.records ≡ length es
  pub told : records ≡ length es
  pub sound : AllByRecursion Sound es
  pub order : StartFirst es
  pub size : 1 ≤ length es → length sheet ≤ 65536

start_more : (es : List Entry) (e : Entry) → StartFirst es → is_start e.letter ≡ eqb (length es) 0 → StartFirst (es ++ e ∷ [])
start_more [] e first is = (is, tt)
start_more (x ∷ es) e first is = (first.0, All-push (λ e. is_start e.letter ≡ false) es e first.1 (is ∙ ne_eqb _ 0 (λ z. omega arith)))

pub along_more : (sheet : List ℕ) (d after : Reader) (records : ℕ) (p : Placed) → Along sheet d records → Passed d after p → Along sheet after p.number
along_more sheet d after records p a s =
    let t = s.stands in
    let e = t.entry in
    let j : flat_map spell (a.es ++ e ∷ []) ≡ flat_map spell a.es ++ spell e = sym (flat_map_more spell [] a.es e) in
    let n = length_push a.es e in
    let first : is_start e.letter ≡ eqb (length a.es) 0 = t.placed ∙ ap (λ k. eqb k 0) a.count in
    let l : drop d.at sheet ≡ spell e ++ drop after.at sheet = ap (drop d.at) (sym a.same) ∙ t.spelled ∙ ap (λ xs. spell e ++ drop after.at xs) a.same in
    record {
      es = a.es ++ e ∷ [];
      same = ap (λ x. x.now) s.sheet ∙ a.same;
      over = s.over;
      spelled = a.spelled ∙ ap (λ r. flat_map spell a.es ++ r) l ∙ sym (append_assoc (flat_map spell a.es) (spell e) (drop after.at sheet)) ∙ ap (λ g. g ++ drop after.at sheet) (sym j);
      place = omega (arith, t.length-is, a.place, ap length j, length-append (flat_map spell a.es) (spell e));
      count = omega (arith, s.records, a.count);
      told = omega (arith, s.number, a.count);
      sound = All-push Sound a.es e a.sound t.sound;
      order = start_more a.es e a.order first;
      size = λ _. omega (arith, s.size, ap length a.same);
    }
