-- A sheet has one verdict. Assumes nothing.
use Rattle.std.proofs.Common.{◌≡◌, ℕ, ◌+◌, Bool, true, false, eqb, List, [], ◌∷◌, ◌++◌, length, Some, None, Ok, Err, Option, sym, refl, ap, ◌∙◌, subst, inl, inr, arith}
use Rattle.std.specs.List.{flat_map, AllByRecursion}
use Rattle.std.proofs.lemmas.List.{append_assoc, append-nil, length-append}
use Rattle.std.proofs.lemmas.Bool.{ne_eqb}
use Rattle.day_sheet.specs.declared.fault.Stop.{Stop}
use Rattle.day_sheet.specs.declared.fault.Fault.{Fault}
use Rattle.day_sheet.specs.Letters.{is_start}
use Rattle.day_sheet.specs.Faults.{fault_of}
use Rattle.day_sheet.specs.Records.{Entry, spell, Sound, RecordFault}
use Rattle.day_sheet.specs.Verdicts.{StartFirst, SheetOf, FaultAfter, OneVerdict, OneList, OneReading}
use Rattle.day_sheet.proofs.Outcomes.{one-fault, one-record, not-both, no-fault_at_end}

pub one-reading : (first : Bool) (bytes : List ℕ) → OneReading first bytes
one-reading first bytes =
    record {
      record_alone = λ d e x y sd se fd fe p q. one-record first d e x y sd se fd fe (sym p ∙ q);
      fault_alone = λ s t f g. one-fault first bytes s t f g;
      never_both = λ e x s sound f same fault. not-both first e bytes x s sound f same fault;
    }

-- the records in order, where the first has to be S or not
abbrev Order : Bool → List Entry → Type 0
Order first [] = Unit {0}
Order first (e ∷ es) = (is_start e.letter ≡ first) × Order false es

order_rest : (es : List Entry) → AllByRecursion (λ e. is_start e.letter ≡ false) es → Order false es
order_rest [] h = tt
order_rest (e ∷ es) h = (h.0, order_rest es h.1)

order_from : (es : List Entry) → StartFirst es → Order true es
order_from [] h = tt
order_from (e ∷ es) h = (h.0, order_rest es h.1)

-- whether the next record has to be S
abbrev next_first : Bool → List Entry → Bool
next_first first [] = first
next_first first (e ∷ es) = false

next_is : (es : List Entry) → next_first true es ≡ eqb (length es) 0
next_is [] = refl
next_is (e ∷ es) = sym (ne_eqb _ 0 (λ z. omega arith))

-- how the records end: with the sheet, or at a fault
abbrev Halts : Bool → (rest : List ℕ) → Option Stop → Type 0
Halts first rest None = (first ≡ false) × (rest ≡ [])
Halts first rest (Some s) = RecordFault first rest s

halts_alone : (first : Bool) (rest : List ℕ) (o p : Option Stop) → Halts first rest o → Halts first rest p → o ≡ p
halts_alone first rest None None h k = refl
halts_alone first rest None (Some s) h k = let P : Bool → Type 0 = λ b. RecordFault b rest s in absurd (no-fault_at_end rest s h.1 (subst P h.0 k))
halts_alone first rest (Some s) None h k = let P : Bool → Type 0 = λ b. RecordFault b rest s in absurd (no-fault_at_end rest s k.1 (subst P k.0 h))
halts_alone first rest (Some s) (Some t) h k = ap (λ s. Some s) (one-fault first rest s t h k)

halts_here : (first : Bool) (rest x : List ℕ) (e : Entry) (o : Option Stop) → Sound e → is_start e.letter ≡ first → rest ≡ spell e ++ x → Halts first rest o → ⊥
halts_here first rest x e None s f same h = omega (arith, ap length (sym h.1 ∙ same), length-append (spell e) x)
halts_here first rest x e (Some t) s f same h = not-both first e rest x t s f same h

pub alone : (first : Bool) (es fs : List Entry) (x y : List ℕ) (o p : Option Stop) → Order first es → Order first fs → AllByRecursion Sound es → AllByRecursion Sound fs → Halts (next_first first es) x o → Halts (next_first first fs) y p → flat_map spell es ++ x ≡ flat_map spell fs ++ y → (es ≡ fs) × (o ≡ p)
alone first [] [] x y o p oe of se sf h k same =
    let P : List ℕ → Type 0 = λ r. Halts first r p in
    (refl, halts_alone first x o p h (subst P (sym same) k))
alone first [] (f ∷ fs) x y o p oe of se sf h k same = absurd (halts_here first x (flat_map spell fs ++ y) f o sf.0 of.0 (same ∙ append_assoc (spell f) (flat_map spell fs) y) h)
alone first (e ∷ es) [] x y o p oe of se sf h k same = absurd (halts_here first y (flat_map spell es ++ x) e p se.0 oe.0 (sym same ∙ append_assoc (spell e) (flat_map spell es) x) k)
alone first (e ∷ es) (f ∷ fs) x y o p oe of se sf h k same =
    let one = one-record first e f (flat_map spell es ++ x) (flat_map spell fs ++ y) se.0 sf.0 oe.0 of.0 (sym (append_assoc (spell e) (flat_map spell es) x) ∙ same ∙ append_assoc (spell f) (flat_map spell fs) y) in
    let P : List Entry → Type 0 = λ l. Halts (next_first false l) x o in
    let rest = alone false es fs x y o p oe.1 of.1 se.1 sf.1 (halts_next es x o h) (halts_next fs y p k) one.1 in
    (cc, rest.1)
  where
    halts_next : (es : List Entry) (x : List ℕ) (o : Option Stop) → Halts false x o → Halts (next_first false es) x o
    halts_next [] x o h = h
    halts_next (e ∷ es) x o h = h

-- ---- whole sheets
pub record Read (sheet : List ℕ) (o : Option Stop) : Type 0 where
  pub es : List Entry
  pub order : StartFirst es
  pub sound : AllByRecursion Sound es
  pub rest : List ℕ
  pub spelled : sheet ≡ flat_map spell es ++ rest
  pub halts : Halts (next_first true es) rest o

read_whole : (es : List Entry) (sheet : List ℕ) → SheetOf es sheet → Read sheet None
read_whole [] sheet s = absurd (omega (arith, s.some))
read_whole (e ∷ es) sheet s = record { es = e ∷ es; order = s.order; sound = s.sound; rest = []; spelled = s.spelled ∙ sym (append-nil (flat_map spell (e ∷ es))); halts = (refl, refl) }

read_fault : (es : List Entry) (sheet : List ℕ) (f : Fault) → (a : FaultAfter es sheet f) → Read sheet (Some a.stop)
read_fault es sheet f a =
    let P : Bool → Type 0 = λ b. RecordFault b a.rest a.stop in
    record { es = es; order = a.order; sound = a.sound; rest = a.rest; spelled = a.spelled; halts = subst P (sym (next_is es)) a.fault }

reads_alone : (sheet : List ℕ) (o p : Option Stop) → (r : Read sheet o) → (s : Read sheet p) → (r.es ≡ s.es) × (o ≡ p)
reads_alone sheet o p r s = alone true r.es s.es r.rest s.rest o p (order_from r.es r.order) (order_from s.es s.order) r.sound s.sound r.halts s.halts (sym r.spelled ∙ s.spelled)

read_es : (es : List Entry) (sheet : List ℕ) (s : SheetOf es sheet) → (read_whole es sheet s).es ≡ es
unfolding read_whole
read_es [] sheet s = absurd (omega (arith, s.some))
read_es (e ∷ es) sheet s = refl

pub one_list : OneList
one_list sheet es fs s t = sym (read_es es sheet s) ∙ (reads_alone sheet None None (read_whole es sheet s) (read_whole fs sheet t)).0 ∙ read_es fs sheet t

pub one-verdict : OneVerdict
unfolding read_fault
one-verdict sheet (Ok m) (Ok n) (es, s, a) (fs, t, b) = ap (λ k. Ok k) (a ∙ ap length (one_list sheet es fs s t) ∙ sym b)
one-verdict sheet (Ok m) (Err f) (es, s, a) (inl (long, is)) = absurd (omega (arith, s.size))
one-verdict sheet (Ok m) (Err f) (es, s, a) (inr (fs, t)) = cc ((reads_alone sheet None (Some t.stop) (read_whole es sheet s) (read_fault fs sheet f t)).1)
one-verdict sheet (Err f) (Ok n) (inl (long, is)) (fs, t, b) = absurd (omega (arith, t.size))
one-verdict sheet (Err f) (Ok n) (inr (es, s)) (fs, t, b) = cc ((reads_alone sheet (Some s.stop) None (read_fault es sheet f s) (read_whole fs sheet t)).1)
one-verdict sheet (Err f) (Err g) (inl (long, is)) (inl (long', is')) = ap (λ x. Err x) (is ∙ sym is')
one-verdict sheet (Err f) (Err g) (inl (long, is)) (inr (fs, t)) = absurd (omega (arith, t.size))
one-verdict sheet (Err f) (Err g) (inr (es, s)) (inl (long, is)) = absurd (omega (arith, s.size))
one-verdict sheet (Err f) (Err g) (inr (es, s)) (inr (fs, t)) =
    let r = reads_alone sheet (Some s.stop) (Some t.stop) (read_fault es sheet f s) (read_fault fs sheet g t) in
    let e : es ≡ fs = r.0 in
    let same : s.stop ≡ t.stop = cc (r.1) in
    ap (λ x. Err x) (s.told ∙ ap (λ l. fault_of (length l + 1) (length (flat_map spell l)) s.stop) e ∙ ap (fault_of (length fs + 1) (length (flat_map spell fs))) same ∙ sym t.told)
