-- A pass over a log that writes its list: what each step keeps, and what the end says. Assumes nothing.
use Rattle.std.proofs.Common.{◌≡◌, ℕ, ◌+◌, ◌≤◌, List, length, Some, None, Ok, Err, Option, Result, sym, refl, ap, ◌∙◌, add-zero, arith, length-append}
use Rattle.items.specs.Kinds.{Layout, Wording, meant}
use Rattle.items.specs.Lines.{fitted}
use Rattle.items.proofs.Fitting.{fits_room}
use Rattle.items.specs.declared.entry.Entry.{Entry}
use Rattle.items.specs.declared.refusal.Refusal.{Refusal}
use Rattle.packed.specs.declared.reading.Reading.{Reading}
use Rattle.packed.specs.Headers.{one_kind, header_of}
use Rattle.packed.specs.Logs.{Listing, finished, stopped, listed, log_listing}
use Rattle.packed.specs.Readings.{begun}
use Rattle.packed.proofs.Steps.{opened, opened_lists, Moved}
use Rattle.packed.specs.Readers.{listing_at}
use Rattle.packed.specs.declared.writing.Writing.{Writing}
use Rattle.text.specs.Lists.{first_line, entry_line}
use Rattle.text.proofs.MemoryTrips.{begun_is, grown_is}
use Rattle.text.specs.Writing.{headed, begins, adds, answered}
use Rattle.translate.specs.Translation.{lines_of, list_text, next, writes, plans, translated_behind, translated}

pub answered_ok : (x : Result Writing Refusal) → Ok tt ≡ answered x → (w : Writing) × (x ≡ Ok w)
answered_ok (Ok w) h = (w, refl)
answered_ok (Err r) h = absurd cc

pub answered_err : (x : Result Writing Refusal) (e : Refusal) → Err e ≡ answered x → x ≡ Err e
answered_err (Ok w) e h = absurd cc
answered_err (Err r) e h = cc

-- a list that ends where its first line fits has no entry
pub headed_place : (code bays room n : ℕ) (o : Option ℕ) (w : Writing) → fitted room 0 n ≡ o → headed code bays o ≡ Ok w → (w.place ≡ n) × (w.entries ≡ 0)
headed_place code bays room n None w is h = absurd cc
headed_place code bays room n (Some end) w is h =
    let same : w ≡ record { code = code; bays = bays; place = end; entries = 0 } = cc in
    (ap (λ x. x.place) same ∙ omega (arith, (fits_room room 0 n end is).0), ap (λ x. x.entries) same)

-- a list that was begun has its first line and no entry
pub begins_place : (kind : Wording) (code room bays : ℕ) (w : Writing) → begins kind code room bays ≡ Ok w → (w.place ≡ length (first_line kind bays)) × (w.entries ≡ 0)
begins_place kind code room bays w h =
    let is = (begun_is kind code room bays w _ _ _ refl refl h).2 in
    (ap (λ x. x.place) is, ap (λ x. x.entries) is)

-- an entry that was added has its line and counts one
pub adds_place : (kind : Wording) (code room : ℕ) (w : Writing) (e : Entry (List ℕ)) (w' : Writing) → adds kind code room w e ≡ Ok w' → (w'.place ≡ w.place + length (entry_line kind e)) × (w'.entries ≡ w.entries + 1)
adds_place kind code room w e w' h =
    let is = (grown_is kind code room w w' e _ _ _ _ _ refl refl h).1 in
    (ap (λ x. x.place) is, ap (λ x. x.entries) is)

written_on : (kind : Wording) (code room : ℕ) (e : Entry (List ℕ)) (rest : Listing) (w w' : Writing) → ((v : Writing) → writes kind code room rest v ≡ Ok w' → w'.place ≡ v.place + length (lines_of kind rest)) → (x : Result Writing Refusal) → adds kind code room w e ≡ x → next x (writes kind code room rest) ≡ Ok w' → w'.place ≡ w.place + length (lines_of kind (listed e rest))
written_on kind code room e rest w w' before (Err r) is h = absurd cc
written_on kind code room e rest w w' before (Ok v) is h =
    omega (arith, before v h, (adds_place kind code room w e v is).0, length-append (entry_line kind e) (lines_of kind rest))

-- a list that was written whole has a line for each entry
pub writes_place : (kind : Wording) (code room : ℕ) (l : Listing) (w w' : Writing) → writes kind code room l w ≡ Ok w' → w'.place ≡ w.place + length (lines_of kind l)
writes_place kind code room finished w w' h = let same : w ≡ w' = cc in sym (ap (λ x. x.place) same) ∙ sym (add-zero w.place)
writes_place kind code room (stopped r l) w w' h = absurd cc
writes_place kind code room (listed e rest) w w' h = written_on kind code room e rest w w' (λ v. writes_place kind code room rest v w') (adds kind code room w e) refl h

module _ (layout : Layout) (kind : Wording) (bytes : List ℕ) (room : ℕ) where
  -- what a pass keeps: it began at a reading and a writing, and goes on from others to the same outcome
  pub record Passing (r₀ : Reading) (w₀ : Writing) (r : Reading) (w : Writing) : Type 0 where
    pub short : length bytes ≤ 65536
    pub level : r.taken ≡ w.entries
    pub goes : writes kind layout.code room (log_listing layout bytes r₀.bays) w₀ ≡ writes kind layout.code room (listing_at layout bytes r) w

  pub pass_begins : (r : Reading) (w : Writing) → Ok r ≡ meant begun (header_of (one_kind layout.code) bytes) → begins kind layout.code room r.bays ≡ Ok w → Passing r w r w
  pass_begins r w open' begin' =
      let o = opened (one_kind layout.code) bytes r (header_of (one_kind layout.code) bytes) refl open' in
      record {
        short = o.3;
        level = ap (λ y. y.taken) o.2 ∙ sym (begins_place kind layout.code room r.bays w begin').1;
        goes = ap (λ l. writes kind layout.code room l w) (opened_lists layout bytes r open');
      }

  module _ {r₀ : Reading} {w₀ : Writing} {r : Reading} {w : Writing} (p : Passing r₀ w₀ r w) where
    -- one entry more was read: how writing goes on
    pass-reads : (r' : Reading) (e : Entry (List ℕ)) → Moved layout bytes r r' e → writes kind layout.code room (log_listing layout bytes r₀.bays) w₀ ≡ next (adds kind layout.code room w e) (writes kind layout.code room (listing_at layout bytes r'))
    pass-reads r' e m = p.goes ∙ ap (λ l. writes kind layout.code room l w) m.lists

    pub pass_on : (r' : Reading) (e : Entry (List ℕ)) (w' : Writing) → Moved layout bytes r r' e → adds kind layout.code room w e ≡ Ok w' → Passing r₀ w₀ r' w'
    pass_on r' e w' m is =
        record {
          short = p.short;
          level = m.count ∙ ap (λ n. n + 1) p.level ∙ sym (adds_place kind layout.code room w e w' is).1;
          goes = pass-reads r' e m ∙ ap (λ x. next x (writes kind layout.code room (listing_at layout bytes r'))) is;
        }

    pub pass_refused : (r' : Reading) (e : Entry (List ℕ)) (x : Refusal) → Moved layout bytes r r' e → adds kind layout.code room w e ≡ Err x → writes kind layout.code room (log_listing layout bytes r₀.bays) w₀ ≡ Err x
    pass_refused r' e x m is = pass-reads r' e m ∙ ap (λ y. next y (writes kind layout.code room (listing_at layout bytes r'))) is

    pub pass_stopped : (x : Refusal) → listing_at layout bytes r ≡ stopped x.reason x.layer → x.entry ≡ r.taken + 1 → writes kind layout.code room (log_listing layout bytes r₀.bays) w₀ ≡ Err x
    pass_stopped x is n =
        p.goes ∙ ap (λ l. writes kind layout.code room l w) is
        ∙ sym (ap (λ k. Err (record { reason = x.reason; layer = x.layer; entry = k })) (n ∙ ap (λ k. k + 1) p.level))

    pub pass_ends : listing_at layout bytes r ≡ finished → writes kind layout.code room (log_listing layout bytes r₀.bays) w₀ ≡ Ok w
    pass_ends is = p.goes ∙ ap (λ l. writes kind layout.code room l w) is

  -- the whole translation, by how a pass that was begun goes on
  pub translated_as : (r₀ : Reading) (w₀ : Writing) (x : Result Writing Refusal) → Ok r₀ ≡ meant begun (header_of (one_kind layout.code) bytes) → begins kind layout.code room r₀.bays ≡ Ok w₀ → writes kind layout.code room (log_listing layout bytes r₀.bays) w₀ ≡ x → translated layout kind bytes room ≡ meant (λ _. list_text kind r₀.bays (log_listing layout bytes r₀.bays)) x
  translated_as r₀ w₀ x open' begin' is =
      let o = opened (one_kind layout.code) bytes r₀ (header_of (one_kind layout.code) bytes) refl open' in
      let whole : ℕ → Result (List ℕ) Refusal = λ b. meant (λ _. list_text kind b (log_listing layout bytes b)) (plans kind layout.code room b (log_listing layout bytes b)) in
      ap (translated_behind layout kind bytes room) o.1 ∙ sym (ap (λ y. whole y.bays) o.2)
      ∙ ap (λ y. meant (λ _. list_text kind r₀.bays (log_listing layout bytes r₀.bays)) (next y (writes kind layout.code room (log_listing layout bytes r₀.bays)))) begin'
      ∙ ap (meant (λ _. list_text kind r₀.bays (log_listing layout bytes r₀.bays))) is

  -- where the list cannot be begun
  pub translated_not_begun : (r₀ : Reading) (x : Refusal) → Ok r₀ ≡ meant begun (header_of (one_kind layout.code) bytes) → begins kind layout.code room r₀.bays ≡ Err x → translated layout kind bytes room ≡ Err x
  translated_not_begun r₀ x open' is =
      let o = opened (one_kind layout.code) bytes r₀ (header_of (one_kind layout.code) bytes) refl open' in
      let whole : ℕ → Result (List ℕ) Refusal = λ b. meant (λ _. list_text kind b (log_listing layout bytes b)) (plans kind layout.code room b (log_listing layout bytes b)) in
      ap (translated_behind layout kind bytes room) o.1 ∙ sym (ap (λ y. whole y.bays) o.2)
      ∙ ap (λ y. meant (λ _. list_text kind r₀.bays (log_listing layout bytes r₀.bays)) (next y (writes kind layout.code room (log_listing layout bytes r₀.bays)))) is

  -- how long a list is that was written whole
  pub text_length : (r₀ : Reading) (w₀ w : Writing) → begins kind layout.code room r₀.bays ≡ Ok w₀ → writes kind layout.code room (log_listing layout bytes r₀.bays) w₀ ≡ Ok w → w.place ≡ length (list_text kind r₀.bays (log_listing layout bytes r₀.bays))
  text_length r₀ w₀ w begin' is =
      omega (arith, writes_place kind layout.code room (log_listing layout bytes r₀.bays) w₀ w is, (begins_place kind layout.code room r₀.bays w₀ begin').0, length-append (first_line kind r₀.bays) (lines_of kind (log_listing layout bytes r₀.bays)))
