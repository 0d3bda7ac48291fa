-- A record written on a sheet. Assumes nothing.
use Rattle.std.proofs.Common.{◌≡◌, ℕ, ◌+◌, List, length, Some, None, Ok, Err, Decides, Option, Result, sym, refl, ap, ◌∙◌, subst}
use Rattle.terms.specs.declared.refusal.Refusal.{Refusal}
use Rattle.terms.specs.Refusals.{answered, unless_refused}
use Rattle.day_sheet.specs.declared.letter.Letter.{Letter}
use Rattle.day_sheet.specs.declared.letter.Ending.{Ending}
use Rattle.day_sheet.specs.declared.letter.Ending.TheVariants.{Nothing, Holidays, Reference}
use Rattle.day_sheet.specs.declared.writer.Sheet.{Sheet}
use Rattle.std.specs.Result.{is_ok}
use Rattle.day_sheet.specs.declared.fault.Stop.{Stop}
use Rattle.day_sheet.specs.declared.fault.Stop.TheVariants as stop
use Rattle.day_sheet.specs.Letters.{ending_of}
use Rattle.day_sheet.specs.Fields.{RunFrom}
use Rattle.day_sheet.proofs.Bodies.{run_broken}
use Rattle.day_sheet.specs.Records.{Run}
use Rattle.day_sheet.specs.Writings.{written_at}
use Rattle.day_sheet.specs.Parts.{RunOf, spelling_of, refusal_of}
use Rattle.day_sheet.specs.Writer.{Spells}
use Rattle.day_sheet.specs.declared.parts.Parts.{Parts}

-- whether the holidays are a run is told by the reading of them
pub run_told : (l : Letter) (tail : List ℕ) (k : Ending) (r : Result Unit Stop) → k ≡ ending_of l → k ≡ Holidays → RunFrom tail r → Decides (is_ok r) (RunOf l tail)
run_told l tail k r a b read =
    let P : Ending → Type 0 = λ k. Decides (is_ok r) (elim k [ Nothing ↦ Unit {0} | Holidays ↦ Run tail | Reference ↦ Unit {0} ]) in
    subst P (sym b ∙ a) (by r read)
  where
    by : (r : Result Unit Stop) → RunFrom tail r → Decides (is_ok r) (Run tail)
    by (Ok u) run = (λ _. run, λ _. refl)
    by (Err stop.Record) f = absurd f
    by (Err (stop.Number at)) f = (λ e. cc, λ run. absurd (run_broken tail at f run))

-- a refusal is told as it is
pub refused_is : (why : Option Refusal) (v : ℕ) (x : Refusal) → ◌≡◌ {A = Result ℕ Refusal} (Err x) (answered why v) → why ≡ Some x
refused_is None v x e = cc
refused_is (Some r) v x e = cc

pub spells_refused : (before after : Sheet) (p : Parts) (x : Refusal) → Err x ≡ answered (refusal_of (length before.bytes.now) before.used p) (before.used + length (spelling_of p)) → after.bytes.now ≡ unless_refused (refusal_of (length before.bytes.now) before.used p) (written_at before.bytes.now before.used (spelling_of p)) before.bytes.now → after.used ≡ before.used → Spells before after p (Err x)
spells_refused before after p x answer bytes used =
    let w = refused_is (refusal_of (length before.bytes.now) before.used p) (before.used + length (spelling_of p)) x answer in
    record {
      answer = ap (λ w. answered w tt) (sym w);
      bytes = bytes;
      used = used ∙ ap (λ w. unless_refused w (before.used + length (spelling_of p)) before.used) (sym w);
    }

-- and so is a writing
pub accepted_is : (why : Option Refusal) (v n : ℕ) → ◌≡◌ {A = Result ℕ Refusal} (Ok n) (answered why v) → (why ≡ None) × (n ≡ v)
accepted_is None v n e = (refl, cc)
accepted_is (Some r) v n e = cc

pub spells_written : (before after : Sheet) (p : Parts) (n : ℕ) → Ok n ≡ answered (refusal_of (length before.bytes.now) before.used p) (before.used + length (spelling_of p)) → after.bytes.now ≡ unless_refused (refusal_of (length before.bytes.now) before.used p) (written_at before.bytes.now before.used (spelling_of p)) before.bytes.now → after.used ≡ n → Spells before after p (Ok tt)
spells_written before after p n answer bytes used =
    let w = accepted_is (refusal_of (length before.bytes.now) before.used p) (before.used + length (spelling_of p)) n answer in
    record {
      answer = ap (λ w. answered w tt) (sym w.0);
      bytes = bytes;
      used = used ∙ w.1 ∙ ap (λ w. unless_refused w (before.used + length (spelling_of p)) before.used) (sym w.0);
    }
