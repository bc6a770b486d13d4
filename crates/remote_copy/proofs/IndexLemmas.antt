-- An index with one mark set, and heights by their needs.
use Rattle.std.proofs.Common.{◌≡◌, ◌≢◌, ◌⊎◌, inl, inr, ◌≤◌, ◌<◌, ◌+◌, ℕ, Bool, true, false, cond, List, [], ◌∷◌, length, take, get_or, Contains, Some, refl, sym, ◌∙◌, ap, subst, arith}
use Rattle.std.specs.BTreeMap.{BTreeMap, get, is_at}
use Rattle.std.specs.BTreeSet.{contains}
use Rattle.std.proofs.lemmas.List.{take_more}
use Rattle.std.proofs.lemmas.List.Elements.{Contains-append_left, Contains-push, Contains-push_cases}
use Rattle.std.proofs.lemmas.Map.Text.{is_eq-slice_cmp}
use Rattle.std.proofs.lemmas.Slice.Eq.{bytes_eq-Decides}
use Rattle.gb_text.specs.declared.id.Name.{Name}
use Rattle.git_object.specs.declared.frame.Kind.{Kind}
use Rattle.git_object.specs.declared.frame.Kind.TheVariants as kinds
use Rattle.commit_walk.proofs.DistinctLemmas.{Contains-nil}
use Rattle.remote_copy.specs.Index.{IsHeight, Notes, Opens, Sets, WasOpened, by_bytes, level_of, mark_of, marks_of}
use Rattle.remote_copy.specs.declared.index.Index.{Index}
use Rattle.remote_copy.specs.declared.index.Mark.{Mark}
use Rattle.remote_copy.specs.declared.index.Mark.TheVariants as mark
use Rattle.remote_copy.specs.declared.need.Need.{Need}

-- names that compare as equal are the same
same_name : (one two : Name) → is_at (by_bytes one) two ≡ true → one ≡ two
same_name one two tied =
    let bytes : one.bytes ≡ two.bytes = (bytes_eq-Decides one.bytes two.bytes).0 (sym (is_eq-slice_cmp one.bytes two.bytes) ∙ tied) in
    ap (λ (bytes : List ℕ). record { bytes = bytes }) bytes

is_at-itself : (name : Name) → is_at (by_bytes name) name ≡ true
is_at-itself name = is_eq-slice_cmp name.bytes name.bytes ∙ (bytes_eq-Decides name.bytes name.bytes).1 refl

pub same_need : (one two : Need) → one.name ≡ two.name → one.kind ≡ two.kind → one ≡ two
same_need one two name kind = grind (arith, name, kind)

-- a map with one mark set
record Puts (old new : BTreeMap Name Mark) (name : Name) (set : Mark) : Type 0 where
  here : get by_bytes new name ≡ Some set
  others : (other : Name) → other ≢ name → get by_bytes new other ≡ get by_bytes old other

abbrev pub Updates : BTreeMap Name Mark → BTreeMap Name Mark → Name → Mark → Type 0
Updates old new name set = (q : Name) → get by_bytes new q ≡ cond (is_at (by_bytes name) q) (Some set) (get by_bytes old q)

-- the same, of marks that were kept before
since : (old mid new : BTreeMap Name Mark) (name : Name) (set : Mark) → mid ≡ old → Updates mid new name set → Updates old new name set
since old mid new name set same has = subst (λ (m : BTreeMap Name Mark). Updates m new name set) same has

puts : (old new : BTreeMap Name Mark) (name : Name) (set : Mark) → Updates old new name set → Puts old new name set
puts old new name set has = record {
  here = has name ∙ ap (λ (b : Bool). cond b (Some set) (get by_bytes old name)) (is_at-itself name);
  others = λ other differs. at other differs (is_at (by_bytes name) other) refl;
}
  where
    at : (other : Name) → other ≢ name → (b : Bool) → is_at (by_bytes name) other ≡ b → get by_bytes new other ≡ get by_bytes old other
    at other differs true tied = absurd (differs (sym (same_name name other tied)))
    at other differs false apart = has other ∙ ap (λ (b : Bool). cond b (Some set) (get by_bytes old other)) apart

-- two kinds are one or differ
pub same_kind : (one two : Kind) → (one ≡ two) ⊎ (one ≢ two)
same_kind kinds.Blob kinds.Blob = inl refl
same_kind kinds.Blob kinds.Tree = inr (λ e. cc)
same_kind kinds.Blob kinds.Commit = inr (λ e. cc)
same_kind kinds.Tree kinds.Blob = inr (λ e. cc)
same_kind kinds.Tree kinds.Tree = inl refl
same_kind kinds.Tree kinds.Commit = inr (λ e. cc)
same_kind kinds.Commit kinds.Blob = inr (λ e. cc)
same_kind kinds.Commit kinds.Tree = inr (λ e. cc)
same_kind kinds.Commit kinds.Commit = inl refl

-- a name more was opened
pub opens_one : (old new : Index) (need : Need) (set : Mark) → set ≡ mark.Open → ((q : Name) → contains by_bytes new.opened q ≡ cond (is_at (by_bytes need.name) q) true (contains by_bytes old.opened q)) → Opens old new need set
opens_one old new need set is has = record {
  opens = λ e. has need.name ∙ ap (λ (b : Bool). cond b true (contains by_bytes old.opened need.name)) (is_at-itself need.name);
  stays = λ name was. stays name was (is_at (by_bytes need.name) name) refl;
  back = λ name now. back name now (is_at (by_bytes need.name) name) refl;
}
  where
    stays : (name : Name) → WasOpened old name → (b : Bool) → is_at (by_bytes need.name) name ≡ b → WasOpened new name
    stays name was true tied = has name ∙ ap (λ (b : Bool). cond b true (contains by_bytes old.opened name)) tied
    stays name was false apart = has name ∙ ap (λ (b : Bool). cond b true (contains by_bytes old.opened name)) apart ∙ was

    back : (name : Name) → WasOpened new name → (b : Bool) → is_at (by_bytes need.name) name ≡ b → WasOpened old name ⊎ ((set ≡ mark.Open) × (name ≡ need.name))
    back name now true tied = inr (is, sym (same_name need.name name tied))
    back name now false apart = inl (sym (has name ∙ ap (λ (b : Bool). cond b true (contains by_bytes old.opened name)) apart) ∙ now)

-- no name more was opened
pub opens_none : (old : Index) (need : Need) (set : Mark) → set ≢ mark.Open → Opens old old need set
opens_none old need set differs = record { opens = λ is. absurd (differs is); stays = λ name was. was; back = λ name was. inl was }

-- the same names were opened
opens_then : (old mid new : Index) (need : Need) (set : Mark) → Opens old mid need set → new.opened ≡ mid.opened → Opens old new need set
opens_then old mid new need set names same = record {
  opens = λ is. ap (λ s. contains by_bytes s need.name) same ∙ names.opens is;
  stays = λ name was. ap (λ s. contains by_bytes s name) same ∙ names.stays name was;
  back = λ name now. names.back name (sym (ap (λ s. contains by_bytes s name) same) ∙ now);
}

-- the name was kept, the marks of one kind were put, and those of the others are the same
sets : (old mid new : Index) (need : Need) (set : Mark) → Notes old mid need set → new.opened ≡ mid.opened → Puts (marks_of old need.kind) (marks_of new need.kind) need.name set
    → ((kind : Kind) → kind ≢ need.kind → marks_of new kind ≡ marks_of old kind) → Sets old new need set
sets old mid new need set notes opened put same = record {
  here = put.here;
  others = λ other differs. by other differs (same_kind other.kind need.kind);
  names = opens_then old mid new need set notes.names opened;
}
  where
    by : (other : Need) → other ≢ need → (other.kind ≡ need.kind) ⊎ (other.kind ≢ need.kind) → mark_of new other.kind other.name ≡ mark_of old other.kind other.name
    by other differs (inl e) =
        let apart : other.name ≢ need.name = λ n. differs (same_need other need n e) in
        subst (λ (k : Kind). mark_of new k other.name ≡ mark_of old k other.name) (sym e) (put.others other.name apart)
    by other differs (inr e) = ap (λ (m : BTreeMap Name Mark). get by_bytes m other.name) (same other.kind e)

module _ (old mid new : Index) (need : Need) (set : Mark) (notes : Notes old mid need set) (opened : new.opened ≡ mid.opened) where
  pub sets_blob : need.kind ≡ kinds.Blob → Updates mid.blobs new.blobs need.name set → new.trees ≡ mid.trees → new.commits ≡ mid.commits → Sets old new need set
  sets_blob kind has trees commits =
      sets old mid new need set notes opened (subst (λ (k : Kind). Puts (marks_of old k) (marks_of new k) need.name set) (sym kind) (puts old.blobs new.blobs need.name set (since old.blobs mid.blobs new.blobs need.name set notes.blobs has))) same
    where
      same : (k : Kind) → k ≢ need.kind → marks_of new k ≡ marks_of old k
      same kinds.Blob differs = absurd (differs (sym kind))
      same kinds.Tree differs = trees ∙ notes.trees
      same kinds.Commit differs = commits ∙ notes.commits

  pub sets_tree : need.kind ≡ kinds.Tree → Updates mid.trees new.trees need.name set → new.blobs ≡ mid.blobs → new.commits ≡ mid.commits → Sets old new need set
  sets_tree kind has blobs commits =
      sets old mid new need set notes opened (subst (λ (k : Kind). Puts (marks_of old k) (marks_of new k) need.name set) (sym kind) (puts old.trees new.trees need.name set (since old.trees mid.trees new.trees need.name set notes.trees has))) same
    where
      same : (k : Kind) → k ≢ need.kind → marks_of new k ≡ marks_of old k
      same kinds.Blob differs = blobs ∙ notes.blobs
      same kinds.Tree differs = absurd (differs (sym kind))
      same kinds.Commit differs = commits ∙ notes.commits

  pub sets_commit : need.kind ≡ kinds.Commit → Updates mid.commits new.commits need.name set → new.blobs ≡ mid.blobs → new.trees ≡ mid.trees → Sets old new need set
  sets_commit kind has blobs trees =
      sets old mid new need set notes opened (subst (λ (k : Kind). Puts (marks_of old k) (marks_of new k) need.name set) (sym kind) (puts old.commits new.commits need.name set (since old.commits mid.commits new.commits need.name set notes.commits has))) same
    where
      same : (k : Kind) → k ≢ need.kind → marks_of new k ≡ marks_of old k
      same kinds.Blob differs = blobs ∙ notes.blobs
      same kinds.Tree differs = trees ∙ notes.trees
      same kinds.Commit differs = absurd (differs (sym kind))

-- ---- heights

pub IsHeight-none : (index : Index) (needs : List Need) → needs ≡ [] → IsHeight index needs 0
IsHeight-none index needs empty = record {
  above = λ need c. absurd (Contains-nil need (subst (λ (l : List Need). Contains l need) empty c));
  some = inl refl;
}

-- one need more, which is no higher
pub IsHeight-low : (index : Index) (needs : List Need) (i height : ℕ) (d : Need) → i < length needs → IsHeight index (take i needs) height → level_of index (get_or needs i d) ≤ height
    → IsHeight index (take (i + 1) needs) height
IsHeight-low index needs i height d within is low = subst (λ (l : List Need). IsHeight index l height) (sym (take_more needs i d within)) (record {
  above = λ need c. elim (Contains-push_cases (take i needs) (get_or needs i d) need c) [
    | inl before ↦ is.above need before
    | inr e ↦ subst (λ (n : Need). level_of index n ≤ height) e low
  ];
  some = elim is.some [
    | inl none ↦ inl none
    | inr (need, c, level) ↦ inr (need, Contains-append_left (take i needs) (get_or needs i d ∷ []) need c, level)
  ];
})

-- one need more, which is higher
pub IsHeight-high : (index : Index) (needs : List Need) (i height : ℕ) (d : Need) → i < length needs → IsHeight index (take i needs) height → height < level_of index (get_or needs i d)
    → IsHeight index (take (i + 1) needs) (level_of index (get_or needs i d))
IsHeight-high index needs i height d within is high = subst (λ (l : List Need). IsHeight index l (level_of index (get_or needs i d))) (sym (take_more needs i d within)) (record {
  above = λ need c. elim (Contains-push_cases (take i needs) (get_or needs i d) need c) [
    | inl before ↦ let low = is.above need before in omega (arith, low, high)
    | inr e ↦ subst (λ (n : Need). level_of index n ≤ level_of index (get_or needs i d)) e (omega arith)
  ];
  some = inr (get_or needs i d, Contains-push (take i needs) (get_or needs i d), refl);
})
