-- The writes of a pack are of the two kinds, and leave no loose ref that was taken.
use Rattle.std.proofs.Common.{◌≡◌, ◌≢◌, ◌⊎◌, inl, inr, ℕ, zero, suc, ◌==◌, Bool, true, false, if◌then◌else◌, not, ◌&&◌, List, [], ◌∷◌, ◌++◌, length, reverse, Option, Some, None, refl, sym, ◌∙◌, ap, subst, append_assoc, length-append, arith}
use Rattle.std.specs.Prelude.{All, Contains, codes, is_some}
use Rattle.std.specs.List.{list_all}
use Rattle.std.specs.Str.{bytes_eq}
use Rattle.std.proofs.lemmas.List.{reverse-append}
use Rattle.std.proofs.lemmas.List.Elements.{All-append, All-contains, All-cons, All-nil, Contains-append_cases}
use Rattle.std.proofs.lemmas.Bool.{and_parts}
use Rattle.std.proofs.lemmas.Bool.Decides.{nat_tests}
use Rattle.hex.specs.Hex.{encode_lower}
use Rattle.gb_text.proofs.AsciiLemmas.{encode_lower-digits}
use Rattle.gb_text.specs.Folder.{joined}
use Rattle.gb_text.specs.declared.id.Name.{Name}
use Rattle.gb_store.specs.Files.{Files, History, Put, Removed, file_at, files_of, written}
use Rattle.gb_store.specs.Moments.{EachWrite, Wrote, WroteSome, at_moment}
use Rattle.gb_store.specs.declared.store.Change.{Change}
use Rattle.gb_store.proofs.FrameLemmas.{written-beside, written-other, written-same}
use Rattle.gb_store.proofs.MomentLemmas.{WroteBy-some}
use Rattle.packed_refs.specs.Packed.{PackedRef, head_of, is_packed, or_none, packed_refs, refs_in}
use Rattle.packed_refs.specs.Written.{IsPackable, packed_text}
use Rattle.packed_refs.specs.Lines.{HasNoLineFeed}
use Rattle.packed_refs.proofs.WrittenLemmas.{digits_have_no_line_feed, read_is_packable, written_reads}
use Rattle.ref_store.specs.Listing.{id_place}
use Rattle.ref_store.specs.Refs.{Absent, Head, is_long, packed_at, packed_in, packed_place, reads_as_packed, ref_at, ref_of}
use Rattle.ref_store.proofs.FrameLemmas.{by_loose, head_is_name}
use Rattle.ref_packing.specs.Answers.{CanPack, Packs}
use Rattle.ref_packing.specs.Kinds.{IsLooseRemoval, IsPackWrite, IsPackedPut, a_loose_removal, a_packed_put}
use Rattle.ref_packing.specs.Packing.{AreLoose, IsLoose, IsPlace, pack_writes, packed_dirs, removals}
use Rattle.ref_packing.proofs.LastLemmas.{Rise, follower_counts, head_from, kept_before, last_gives, last_packable, later_differ, rise_tail}
use Rattle.ref_packing.proofs.RefLemmas.{place_is_not_packed, refs_of_read}

-- the first of some writes is made before the others
pub reverse_step : (change : Change) (later done : List Change) → reverse (change ∷ later) ++ done ≡ reverse later ++ change ∷ done
reverse_step change later done = ap (λ (ws : List Change). ws ++ done) (reverse-append (change ∷ []) later) ∙ append_assoc (reverse later) (change ∷ []) done

-- ---- what removals leave

module _ (folder : List ℕ) where
  abbrev after : List PackedRef → History → History
  after taken h = reverse (removals folder taken) ++ h

  abbrev removal : PackedRef → Change
  removal one = Removed (joined folder one.name)

  -- a file of no ref that was taken stays
  stays : (taken : List PackedRef) (h : History) (path : List ℕ) → ((one : PackedRef) → Contains taken one → joined folder one.name ≢ path)
      → file_at (after taken h) path ≡ file_at h path
  stays [] h path never = refl
  stays (one ∷ taken) h path never =
      ap (λ (ws : History). file_at ws path) (reverse_step (removal one) (removals folder taken) h)
      ∙ stays taken (removal one ∷ h) path (λ other has. never other (suc has.0, omega (arith, has.1), has.2))
      ∙ written-other (files_of h) (removal one) path (never one (0, omega arith, refl))

  -- no file comes back
  still_gone : (taken : List PackedRef) (h : History) (path : List ℕ) → file_at h path ≡ None → file_at (after taken h) path ≡ None
  still_gone [] h path none = none
  still_gone (one ∷ taken) h path none =
      ap (λ (ws : History). file_at ws path) (reverse_step (removal one) (removals folder taken) h)
      ∙ still_gone taken (removal one ∷ h) path (by (bytes_eq (joined folder one.name) path))
    where
      by : (b : Bool) → (if b then None else file_at h path) ≡ None
      by true = refl
      by false = none

  -- each file of a ref that was taken is gone
  gone : (taken : List PackedRef) (h : History) (one : PackedRef) → Contains taken one → file_at (after taken h) (joined folder one.name) ≡ None
  gone [] h one (k, lt, e) = absurd (omega arith)
  gone (x ∷ taken) h one (zero, lt, e) =
      ap (λ (y : PackedRef). file_at (after (x ∷ taken) h) (joined folder y.name)) (sym e)
      ∙ ap (λ (ws : History). file_at ws (joined folder x.name)) (reverse_step (removal x) (removals folder taken) h)
      ∙ still_gone taken (removal x ∷ h) (joined folder x.name) (written-same (files_of h) (removal x))
  gone (x ∷ taken) h one (suc k, lt, e) =
      ap (λ (ws : History). file_at ws (joined folder one.name)) (reverse_step (removal x) (removals folder taken) h)
      ∙ gone taken (removal x ∷ h) one (k, omega arith, e)

  -- so nothing is loose behind a pack
  not_loose : (file : Option (List ℕ)) (head : Name) → file ≡ None → ref_of file ≡ Head head → ⊥
  not_loose file head none e = (let absent : ref_of file ≡ Absent = ap ref_of none in cc (absent, e))

  none_left : (old new : History) (taken packed : List PackedRef) (one : PackedRef) → AreLoose (files_of old) folder taken
      → new ≡ reverse (pack_writes folder taken packed) ++ old → IsLoose (files_of new) folder one → ⊥
  none_left old new [] packed one are wrote loose =
      let has : Contains [] one = (are.members one).1 (subst (λ (h : History). IsLoose (files_of h) folder one) wrote loose) in
      absurd (omega (arith, has.1))
  none_left old new (x ∷ xs) packed one are wrote loose = absurd (untaken one ((are.members one).1 was) refl)
    where
      parts : (p : List ℕ) → file_at new p ≡ file_at (after (x ∷ xs) (Put (joined folder packed_place) (packed_text packed) ∷ old)) p
      parts p = ap (λ (h : History). file_at h p) (wrote ∙ reverse_step (Put (joined folder packed_place) (packed_text packed)) (removals folder (x ∷ xs)) old)

      untaken : (other : PackedRef) → Contains (x ∷ xs) other → joined folder other.name ≢ joined folder one.name
      untaken other has same =
          let none : file_at new (joined folder other.name) ≡ None = parts (joined folder other.name) ∙ gone (x ∷ xs) (Put (joined folder packed_place) (packed_text packed) ∷ old) other has in
          not_loose (file_at new (joined folder one.name)) one.head (ap (λ (p : List ℕ). file_at new p) (sym same) ∙ none) loose.is_head

      stood : file_at new (joined folder one.name) ≡ file_at old (joined folder one.name)
      stood =
          parts (joined folder one.name)
          ∙ stays (x ∷ xs) (Put (joined folder packed_place) (packed_text packed) ∷ old) (joined folder one.name) untaken
          ∙ written-other (files_of old) (Put (joined folder packed_place) (packed_text packed)) (joined folder one.name) (λ same. place_is_not_packed folder one.name loose.place (sym same))

      was : IsLoose (files_of old) folder one
      was = record { place = loose.place; is_head = ap ref_of (sym stood) ∙ loose.is_head }

pub packed_none_left : (folder : List ℕ) (old new : History) (count : ℕ) (one : PackedRef) → Packs folder old new count → IsLoose (files_of new) folder one → ⊥
packed_none_left folder old new count one packs loose = none_left folder old new packs.taken packs.packed one packs.are_packed.are_loose packs.wrote loose

-- ---- what can be written

-- a text that is tested to have none has no line feed
tested : (text : List ℕ) → list_all (λ byte. not (byte == 10)) text ≡ true → HasNoLineFeed text
tested [] all = All-nil (λ byte. byte ≢ 10)
tested (x ∷ xs) all =
    let parts = and_parts (not (x == 10)) (list_all (λ byte. not (byte == 10)) xs) all in
    All-cons (λ byte. byte ≢ 10) x xs (grind (arith, nat_tests)) (tested xs parts.1)

-- the name of an id's ref has no line feed
place_has_no_line_feed : (name : List ℕ) → IsPlace name → HasNoLineFeed name × (name ≢ [])
place_has_no_line_feed name place = by place.dir place.of place.is_place
  where
    digits : HasNoLineFeed (encode_lower place.id.bytes)
    digits = digits_have_no_line_feed (encode_lower place.id.bytes) (encode_lower-digits place.id.bytes place.is_id.bytes)

    in_dir : (dir : List ℕ) → HasNoLineFeed dir → name ≡ id_place dir place.id → HasNoLineFeed name × (name ≢ [])
    in_dir dir none is = (
      subst HasNoLineFeed (sym is) (All-append (λ byte. byte ≢ 10) dir (47 ∷ encode_lower place.id.bytes) none (All-cons (λ byte. byte ≢ 10) 47 (encode_lower place.id.bytes) (λ e. absurd (omega (arith, e))) digits)),
      λ nil. (let size : length (id_place dir place.id) ≡ 0 = ap length (sym is ∙ nil) in omega (arith, size, length-append dir (47 ∷ encode_lower place.id.bytes))),
    )

    by : (dir : List ℕ) → Contains packed_dirs dir → name ≡ id_place dir place.id → HasNoLineFeed name × (name ≢ [])
    by dir (zero, lt, e) is = in_dir dir (subst HasNoLineFeed e (tested (codes "refs/bugs") refl)) is
    by dir (suc zero, lt, e) is = in_dir dir (subst HasNoLineFeed e (tested (codes "refs/identities") refl)) is
    by dir (suc (suc k), lt, e) is = absurd (omega arith)

-- a loose ref can be packed
loose_packable : (files : Files) (folder : List ℕ) (one : PackedRef) → IsLoose files folder one → IsPackable one
loose_packable files folder one loose =
    let parts = place_has_no_line_feed one.name loose.place in
    record {
      is_name = head_is_name files folder one.name one.head (by_loose files folder one.name (Head one.head) loose.is_head);
      some = parts.1;
      no_line_feed = parts.0;
    }

-- and so can one of packed refs
old_packable : (file : Option (List ℕ)) (one : PackedRef) → Contains (packed_in file) one → IsPackable one
old_packable None one has = absurd (omega (arith, has.1))
old_packable (Some text) one has = by (is_long text) has
  where
    read : (o : Option (List PackedRef)) → packed_refs text ≡ o → Contains (or_none o) one → IsPackable one
    read None at has = absurd (omega (arith, has.1))
    read (Some refs) at has = All-contains IsPackable refs one (read_is_packable text refs at) has

    by : (b : Bool) → Contains (if b then [] else refs_in text) one → IsPackable one
    by true has = absurd (omega (arith, has.1))
    by false has = read (packed_refs text) refl has

module _ (folder : List ℕ) (old : History) (taken packed : List PackedRef) (can : CanPack (files_of old) folder taken packed) where
  abbrev files : Files
  files = files_of old

  abbrev refs : List PackedRef
  refs = packed_at files folder ++ taken

  packable : All IsPackable packed
  packable = last_packable refs packed each can.are_packed.are_last
    where
      each : (one : PackedRef) → Contains refs one → IsPackable one
      each one has = elim (Contains-append_cases (packed_at files folder) taken one has) [
        | inl before ↦ old_packable (files (joined folder packed_place)) one before
        | inr now ↦ loose_packable files folder one ((can.are_packed.are_loose.members one).0 now)
      ]

  -- the text that is put has the packed refs
  text_has : refs_in (packed_text packed) ≡ packed
  text_has = ap or_none (written_reads packed packable)

  text_reads : reads_as_packed (Some (packed_text packed)) ≡ true
  text_reads =
      ap (λ (b : Bool). not b && is_packed (packed_text packed)) can.fits
      ∙ ap (λ (o : Option (List PackedRef)). is_some o) (written_reads packed packable)

  text_gives : (name : List ℕ) → head_of name (refs_in (packed_text packed)) ≡ head_of name refs
  text_gives name = ap (head_of name) text_has ∙ last_gives refs packed name can.are_packed.are_last

  abbrev put : Change
  put = Put (joined folder packed_place) (packed_text packed)

  put_is_allowed : IsPackedPut folder files put
  put_is_allowed = record {
    text = packed_text packed;
    before = can.reads;
    reads = text_reads;
    kept = λ name head was. (let now = kept_before name None (packed_at files folder) taken head was in (now.0, text_gives name ∙ now.1));
    heads = λ name head is. heads name head (head_from name None (packed_at files folder) taken head (sym (text_gives name) ∙ is));
    write = refl;
  }
    where
      heads : (name : List ℕ) (head : Name) → Contains taken (record { name = name; head = head }) ⊎ (head_of name (packed_at files folder) ≡ Some head)
          → (ref_at files folder name ≡ Head head) ⊎ (head_of name (packed_at files folder) ≡ Some head)
      heads name head (inl has) = inl (by_loose files folder name (Head head) ((can.are_packed.are_loose.members (record { name = name; head = head })).0 has).is_head)
      heads name head (inr was) = inr was

  -- these are loose still, and packed
  record Removing (now : Files) (rest : List PackedRef) : Type 0 where
    loose : (one : PackedRef) → Contains rest one → IsLoose now folder one
    heads : (one : PackedRef) → Contains rest one → head_of one.name (packed_at now folder) ≡ Some one.head

  behind_put : Removing (written files put) taken
  behind_put = record {
    loose = λ one has.
        let was = (can.are_packed.are_loose.members one).0 has in
        record {
          place = was.place;
          is_head = ap ref_of (written-other files put (joined folder one.name) (λ same. place_is_not_packed folder one.name was.place (sym same))) ∙ was.is_head;
        };
    heads = λ one has.
        ap (λ (file : Option (List ℕ)). head_of one.name (packed_in file)) (written-same files put)
        ∙ ap (head_of one.name) (refs_of_read (packed_text packed) text_reads)
        ∙ text_gives one.name
        ∙ follower_counts (packed_at files folder) taken one None can.are_packed.are_loose.rising has;
  }

  removed : (now : Files) (one : PackedRef) (rest : List PackedRef) → Rise (one ∷ rest) → Removing now (one ∷ rest) → Removing (written now (Removed (joined folder one.name))) rest
  removed now one rest rise is = record {
    loose = λ other has.
        let was = is.loose other (suc has.0, omega (arith, has.1), has.2) in
        record {
          place = was.place;
          is_head = ap ref_of (written-beside now (Removed (joined folder one.name)) folder one.name other.name refl (later_differ one rest other rise has)) ∙ was.is_head;
        };
    heads = λ other has.
        let place = (is.loose one (0, omega arith, refl)).place in
        ap (λ (file : Option (List ℕ)). head_of other.name (packed_in file)) (written-other now (Removed (joined folder one.name)) (joined folder packed_place) (place_is_not_packed folder one.name place))
        ∙ is.heads other (suc has.0, omega (arith, has.1), has.2);
  }

  removal_is_allowed : (now : Files) (one : PackedRef) (rest : List PackedRef) → Removing now (one ∷ rest) → IsLooseRemoval folder now (Removed (joined folder one.name))
  removal_is_allowed now one rest is =
      let loose = is.loose one (0, omega arith, refl) in
      record { name = one.name; place = loose.place; head = one.head; is_loose = loose.is_head; is_packed = is.heads one (0, omega arith, refl); write = refl }

  abbrev Rule : History → List Change → Change → Type 0
  Rule = at_moment (IsPackWrite folder)

  each_removal : (rest : List PackedRef) (done : List Change) → Rise rest → Removing (files_of (done ++ old)) rest → EachWrite Rule old done
      → EachWrite Rule old (reverse (removals folder rest) ++ done)
  each_removal [] done rise is each = each
  each_removal (one ∷ rest) done rise is each =
      subst (EachWrite Rule old) (sym (reverse_step (Removed (joined folder one.name)) (removals folder rest) done))
      (each_removal rest (Removed (joined folder one.name) ∷ done) (rise_tail one rest rise) (removed (files_of (done ++ old)) one rest rise is)
      (each, a_loose_removal (removal_is_allowed (files_of (done ++ old)) one rest is)))

  each_write : EachWrite Rule old (reverse (put ∷ removals folder taken))
  each_write =
      subst (EachWrite Rule old) (sym (reverse-append (put ∷ []) (removals folder taken)))
      (each_removal taken (put ∷ []) can.are_packed.are_loose.rising behind_put (tt, a_packed_put put_is_allowed))

-- the first writes of a pack are of the two kinds
pub packs_write : (folder : List ℕ) (old new : History) (taken packed : List PackedRef) → CanPack (files_of old) folder taken packed
    → WroteSome (pack_writes folder taken packed) old new → Wrote (IsPackWrite folder) old new
packs_write folder old new [] packed can some = absurd (can.some refl)
packs_write folder old new (one ∷ taken) packed can some =
    WroteBy-some (at_moment (IsPackWrite folder)) (pack_writes folder (one ∷ taken) packed) old new (each_write folder old (one ∷ taken) packed can) some
