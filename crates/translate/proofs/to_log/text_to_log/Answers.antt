use Rattle.std.proofs.Common.{◌≡◌, ℕ, List, Ok, Result, refl, sym, ap, ◌∙◌, subst}
use Rattle.items.specs.Kinds.{meant}
use Rattle.items.specs.declared.kind_name.KindName.{KindName}
use Rattle.items.specs.declared.kind_name.KindName.TheVariants.{Article, Span, FieldSet}
use Rattle.items.specs.declared.refusal.Refusal.{Refusal}
use Rattle.packed.specs.Bits.{bytes_of}
use Rattle.text.specs.Reads.{first_line_of, kind_told}
use Rattle.text.specs.Words.{before}
use Rattle.translate.specs.Packs.{packed_bits, log_by_kind, log_of_text}
use Rattle.translate.specs.Translation.{layout_of, wording_of}
use Rattle.translate.specs.Trips.{ListsAgain, ListComesBack}
use Rattle.translate.proofs.RoundTrips.{list_back}
use Rattle.translate.proofs.to_log.text_to_log.Goals as goal

-- by the kind that the list tells
back : (name : KindName) (text : List ℕ) (room : ℕ) (k : Result KindName Refusal) → k ≡ kind_told (first_line_of (before 10 text)) → k ≡ Ok name → ListsAgain name (layout_of name) (wording_of name) text (meant bytes_of (packed_bits (layout_of name) (wording_of name) text room)) → ListComesBack text (log_of_text text room)
back name text room k told is again = subst (ListComesBack text) (ap (λ y. meant bytes_of (log_by_kind text room y)) (sym is ∙ told)) (list_back name text _ again)

pub returns-in-Article-clause-comes_back : goal.returns-in-Article-clause-comes_back
returns-in-Article-clause-comes_back c = back Article c.args.text.now _ _ c.in_ok-list_kind.ensures (ap Ok c.in-Article.is) (c.pack_whole.ensures.again Article (record { code = refl; word = refl }))

pub returns-in-Span-clause-comes_back : goal.returns-in-Span-clause-comes_back
returns-in-Span-clause-comes_back c = back Span c.args.text.now _ _ c.in_ok-list_kind.ensures (ap Ok c.in-Span.is) (c.pack_whole-in-Span.ensures.again Span (record { code = refl; word = refl }))

pub returns-in-FieldSet-clause-comes_back : goal.returns-in-FieldSet-clause-comes_back
returns-in-FieldSet-clause-comes_back c = back FieldSet c.args.text.now _ _ c.in_ok-list_kind.ensures (ap Ok c.in-FieldSet.is) (c.pack_whole-in-FieldSet.ensures.again FieldSet (record { code = refl; word = refl }))
