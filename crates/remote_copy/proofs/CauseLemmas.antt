-- Each refusal of a copy on its way has its cause.
use Rattle.std.proofs.Common.{◌≡◌, ◌≢◌, ◌⊎◌, inl, inr, ◌<◌, ◌≤◌, ◌+◌, zero, suc, ℕ, Bool, true, false, List, [], ◌∷◌, ◌++◌, length, get_or, map, All, Contains, Some, None, refl, sym, ◌∙◌, ap, subst, arith, length-append}
use Rattle.std.proofs.lemmas.List.Elements.{All-append, All-cons, All-nil, Contains-push_cases}
use Rattle.std.proofs.Math.ListN.{get_or-map}
use Rattle.std.proofs.lemmas.List.{length-map}
use Rattle.std.proofs.lemmas.Option.{same_Some}
use Rattle.gb_text.specs.declared.id.Name.{Name}
use Rattle.git_object.specs.declared.entry.Mode.{Mode}
use Rattle.git_object.specs.declared.entry.Mode.TheVariants as mode
use Rattle.git_object.specs.declared.frame.Kind.{Kind}
use Rattle.git_object.specs.declared.frame.Kind.TheVariants as kinds
use Rattle.git_object.specs.declared.object.Object.{Object}
use Rattle.git_object.specs.declared.object.Object.TheVariants as objects
use Rattle.git_object.specs.Grammar.{kind_of}
use Rattle.git_object.specs.Reading.{object_of}
use Rattle.object_store.specs.Held.{Objects, object_at, text_at}
use Rattle.object_store.proofs.GrowthLemmas.{object_stays}
use Rattle.object_batch.specs.Needs.{IsHeldAs, Leads, Names, NamesNext, Reference, kind_named}
use Rattle.object_batch.proofs.LeadLemmas.{Leads-then}
use Rattle.commit_walk.specs.Distinct.{AreDistinct}
use Rattle.commit_walk.proofs.DistinctLemmas.{AreDistinct-push, Contains-from_map}
use Rattle.remote_copy.specs.Answers.{standing}
use Rattle.remote_copy.specs.Causes.{AreTooMany, CauseHolds, IsCommit, IsOfOtherKind, IsOther, IsTaken, LeadsOn}
use Rattle.remote_copy.specs.Closure.{IsFollowed, IsLeft, commit_named, first, next}
use Rattle.remote_copy.specs.Copying.{AreCounted, HasTrees, IsCopying, IsMetAs, IsOpened}
use Rattle.remote_copy.specs.Index.{IsDone, IsMet, WasOpened, mark_of}
use Rattle.remote_copy.specs.Needs.{as_kind}
use Rattle.remote_copy.specs.Opens.{IsSource, OpenRefused, ref_of}
use Rattle.remote_copy.specs.Work.{IsFull, ring_fault}
use Rattle.remote_copy.specs.declared.fault.CopyFault.{CopyFault}
use Rattle.remote_copy.specs.declared.fault.CopyFault.TheVariants as fault
use Rattle.remote_copy.specs.declared.index.Mark.{Mark}
use Rattle.remote_copy.specs.declared.index.Mark.TheVariants as mark
use Rattle.remote_copy.specs.declared.need.Need.{Need}
use Rattle.remote_copy.specs.declared.open.Open.{Open}
use Rattle.remote_copy.specs.declared.open.TheConstants.{MOST_TREES}
use Rattle.commit_walk.specs.declared.below.TheConstants.{MOST_COMMITS}
use Rattle.remote_copy.specs.declared.work.TheConstants.{MOST_OTHERS}
use Rattle.remote_copy.specs.declared.work.Work.{Work}
use Rattle.remote_copy.proofs.CopyingLemmas.{left_stays}
use Rattle.remote_copy.proofs.IndexLemmas.{same_need}
use Rattle.remote_copy.proofs.TextLemmas.{object_at-of_text, object_at-text, text_at-is, text_at-name, text_at-there}

-- distinct needs are distinct as references
pub AreDistinct-refs : (needs : List Need) → AreDistinct needs → AreDistinct (map ref_of needs)
AreDistinct-refs needs once i j d before within same =
    let need : Need = as_kind d.kind d.name in
    let short : j < length needs = omega (arith, within, length-map needs ref_of) in
    let one : get_or (map ref_of needs) i d ≡ ref_of (get_or needs i need) = get_or-map ref_of needs i need in
    let two : get_or (map ref_of needs) j d ≡ ref_of (get_or needs j need) = get_or-map ref_of needs j need in
    let refs : ref_of (get_or needs i need) ≡ ref_of (get_or needs j need) = sym one ∙ same ∙ two in
    once i j need before short (ap (λ (r : Reference). as_kind r.kind r.name) refs)

module _ (closed : Bool) (source entry : Objects) (head : Name) where
  -- what is not left now was not left at entry
  pub unleft_first : (target : Objects) (work : Work) (stack : List Open) (one : Reference) → IsCopying closed source entry target head work stack → (IsLeft closed target one → ⊥) → IsLeft closed entry one → ⊥
  unleft_first target work stack one w unleft left = unleft (left_stays closed entry target one w.grew left)

  -- why an object of the part is not opened is a cause
  pub open_cause : (target : Objects) (work : Work) (stack : List Open) (need : Need) (e : CopyFault) → IsCopying closed source entry target head work stack → IsFollowed closed source entry head (ref_of need)
      → OpenRefused source target need e → (e ≢ fault.Memory) → (e ≢ fault.Disk) → CauseHolds closed source entry head e
  open_cause target work stack need fault.Memory w followed r memory disk = memory refl
  open_cause target work stack need fault.Disk w followed r memory disk = disk refl
  open_cause target work stack need (fault.Missing n) w followed r memory disk = record { one = ref_of need; is_named = sym r.0; followed = followed; is = r.1 }
  open_cause target work stack need (fault.Damaged n) w followed r memory disk = record { one = ref_of need; is_named = sym r.0; followed = followed; is = r.1 }
  open_cause target work stack need (fault.WrongKind n) w followed r memory disk = record { one = ref_of need; is_named = sym r.0; followed = followed; is = r.1 }
  open_cause target work stack need (fault.TooLarge count) w followed r memory disk = inl (r.0, record { one = ref_of need; followed = followed; large = r.1 })
  open_cause target work stack need (fault.Ring n) w followed r memory disk = absurd r
  open_cause target work stack need (fault.Taken n) w followed r memory disk = record { one = ref_of need; is_named = sym r.0; followed = followed; is = taken }
    where
      taken : IsTaken source entry need.name
      taken = elim (w.added need.name r.1.other (text_at-name source need.name r.1.text r.1.held) r.1.stands) [
        | inl before ↦ record { text = r.1.text; other = r.1.other; held = r.1.held; stands = before; differs = r.1.differs }
        | inr added ↦ absurd (r.1.differs (same_Some r.1.other r.1.text (sym added.held ∙ r.1.held)))
      ]

  -- a name that was opened as that of another kind is not left, and is of the wrong kind
  pub opened_kind : (target : Objects) (work : Work) (stack : List Open) (need : Need) → IsCopying closed source entry target head work stack → mark_of work.index need.kind need.name ≡ None
      → WasOpened work.index need.name → (IsLeft closed entry (ref_of need) → ⊥) × IsOfOtherKind source (ref_of need)
  opened_kind target work stack need w fresh opened = by as_other.met.0 as_other.met.1
    where
      as_other : IsMetAs closed entry work.index need.name
      as_other = w.names need.name opened

      differs : as_other.need.kind ≢ need.kind
      differs kind =
          let met = subst (IsMet work.index) (same_need as_other.need need as_other.is_named kind) as_other.met in
          cc (sym fresh ∙ met.1)

      -- the text that the name holds in the source stands in the target, or nothing does
      known : (n : Need) → n ≡ as_other.need → (text : List ℕ) (object : Object) → IsSource source n text object → (target n.name ≡ Some text) ⊎ (target n.name ≡ None)
          → (IsLeft closed entry (ref_of need) → ⊥) × IsOfOtherKind source (ref_of need)
      known n e text object is there = (
        λ left. unleft left there,
        record { object = object; held = subst (λ (x : Name). object_at source x ≡ Some object) name (object_at-of_text source n.name text object is.held is.is); differs = λ kind. apart (sym is.is_kind ∙ kind) },
      )
        where
          name : n.name ≡ need.name
          name = ap (λ (x : Need). x.name) e ∙ as_other.is_named

          apart : n.kind ≢ need.kind
          apart kind = differs (sym (ap (λ (x : Need). x.kind) e) ∙ kind)

          unleft : IsLeft closed entry (ref_of need) → (target n.name ≡ Some text) ⊎ (target n.name ≡ None) → ⊥
          unleft left (inl here) =
              let held : object_at target need.name ≡ Some left.held.object = object_stays entry target w.grew need.name left.held.object left.held.is in
              let same : object_at target n.name ≡ Some object = object_at-of_text target n.name text object (text_at-there source target n.name text is.held here) is.is in
              let one : object ≡ left.held.object = same_Some object left.held.object (sym same ∙ ap (object_at target) name ∙ held) in
              apart (sym is.is_kind ∙ ap kind_of one ∙ left.held.is_kind ∙ sym left.is_commit)
          unleft left (inr none) =
              let held : object_at target need.name ≡ Some left.held.object = object_stays entry target w.grew need.name left.held.object left.held.is in
              let found = object_at-text target need.name left.held.object held in
              let stands = (text_at-is target need.name found.0 found.1).stands in
              cc (sym none ∙ ap target name ∙ stands)

      standing_cases : (b : Bool) (name : Name) (text : List ℕ) → target name ≡ standing b text → (target name ≡ Some text) ⊎ (target name ≡ None)
      standing_cases true name text is = inl is
      standing_cases false name text is = inr is

      by : (m : Mark) → mark_of work.index as_other.need.kind as_other.need.name ≡ Some m → (IsLeft closed entry (ref_of need) → ⊥) × IsOfOtherKind source (ref_of need)
      by mark.Open is =
          let was = w.is_open as_other.need is in
          let o = w.opens was.0 was.1 in
          known was.0.need was.2 was.0.text o.object o.opened.is (standing_cases was.0.stands was.0.need.name was.0.text o.there)
      by (mark.Done height) is = elim (w.finished as_other.need height is) [
        | inl left ↦ absurd (as_other.unleft left)
        | inr f ↦ known as_other.need refl f.text f.object f.opened.is (inl f.there)
      ]

  -- a commit that is left now, and was not met, was left at entry
  pub left_first : (target : Objects) (work : Work) (stack : List Open) (need : Need) → IsCopying closed source entry target head work stack → mark_of work.index need.kind need.name ≡ None
      → IsLeft closed target (ref_of need) → IsLeft closed entry (ref_of need)
  left_first target work stack need w fresh left = elim (w.added need.name text (text_at-name target need.name text at) (text_at-is target need.name text at).stands) [
    | inl before ↦ record {
      is_closed = left.is_closed;
      is_commit = left.is_commit;
      held = record { object = left.held.object; is = object_at-of_text entry need.name text left.held.object (text_at-there target entry need.name text at before) is; is_kind = left.held.is_kind };
    }
    | inr added ↦
        let object : added.object ≡ left.held.object = same_Some added.object left.held.object (sym added.is ∙ is) in
        let kind : kind_of added.object ≡ need.kind = ap kind_of object ∙ left.held.is_kind ∙ sym left.is_commit in
        let same : as_kind (kind_of added.object) need.name ≡ need = same_need (as_kind (kind_of added.object) need.name) need refl kind in
        let done : IsDone work.index need = subst (IsDone work.index) same added.done in
        absurd (cc (sym fresh ∙ done.1))
  ]
    where
      text : List ℕ
      text = (object_at-text target need.name left.held.object left.held.is).0

      at : text_at target need.name ≡ Some text
      at = (object_at-text target need.name left.held.object left.held.is).1

      is : object_of text ≡ Some left.held.object
      is = (object_at-text target need.name left.held.object left.held.is).2

  -- ---- too many

  module _ (work : Work) (need : Need) (text : List ℕ) (object : Object) (opened : IsOpened closed source entry head need text object) (fresh : mark_of work.index need.kind need.name ≡ None) where
    too_many : (IsOne : Kind → Type 0) (count most : ℕ) → IsOne need.kind → AreCounted closed source entry head work.index IsOne count → most ≤ count → AreTooMany closed source entry head IsOne most
    too_many IsOne count most one k full = record {
      them = map ref_of (k.them ++ need ∷ []);
      once = AreDistinct-refs (k.them ++ need ∷ []) (AreDistinct-push k.them need k.once (λ c. let met = (k.each need c).2 in cc (sym fresh ∙ met.1)));
      many = omega (arith, k.long, full, length-map (k.them ++ need ∷ []) ref_of, length-append k.them (need ∷ []));
      each = λ other c. let found = Contains-from_map ref_of (k.them ++ need ∷ []) other c in subst each found.2 (is found.0 found.1);
    }
      where
        each : Reference → Type 0
        each other = IsFollowed closed source entry head other × IsHeldAs source other.name other.kind × IsOne other.kind

        held : (n : Need) (t : List ℕ) (o : Object) → IsOpened closed source entry head n t o → IsHeldAs source n.name n.kind
        held n t o opened = record { object = o; is = object_at-of_text source n.name t o opened.is.held opened.is.is; is_kind = opened.is.is_kind }

        is : (n : Need) → Contains (k.them ++ need ∷ []) n → IsFollowed closed source entry head (ref_of n) × IsHeldAs source n.name n.kind × IsOne n.kind
        is n c = elim (Contains-push_cases k.them need n c) [
          | inl before ↦ let e = k.each n before in (e.1.2.followed, held n e.1.0 e.1.1 e.1.2, e.0)
          | inr same ↦ subst (λ (x : Need). IsFollowed closed source entry head (ref_of x) × IsHeldAs source x.name x.kind × IsOne x.kind) same (opened.followed, held need text object opened, one)
        ]

    pub full_cause : (kind : Kind) (count : ℕ) → need.kind ≡ kind → AreCounted closed source entry head work.index IsCommit work.commits → AreCounted closed source entry head work.index IsOther work.others
        → IsFull kind work count → CauseHolds closed source entry head (fault.TooLarge count)
    full_cause kinds.Commit count is commits others full = inr (inl (full.0, too_many IsCommit work.commits MOST_COMMITS is commits full.1))
    full_cause kinds.Tree count is commits others full = inr (inr (inl (full.0, too_many IsOther work.others MOST_OTHERS (λ e. let no : kinds.Tree ≡ kinds.Commit = sym is ∙ e in cc) others full.1)))
    full_cause kinds.Blob count is commits others full = inr (inr (inl (full.0, too_many IsOther work.others MOST_OTHERS (λ e. let no : kinds.Blob ≡ kinds.Commit = sym is ∙ e in cc) others full.1)))

  -- ---- too deep

  -- a commit of the part, and the path from its tree to a tree
  record AboveTree (tree : Reference) : Type 0 where
    commit : Name
    followed : IsFollowed closed source entry head (commit_named commit)
    top : Reference
    is_tree : top.kind ≡ kinds.Tree
    names : NamesNext source (commit_named commit) top
    path : List Reference
    leads : Leads source top path tree
    trees : All (λ (one : Reference). one.kind ≡ kinds.Tree) path

  tree_above : (tree : Reference) → tree.kind ≡ kinds.Tree → IsFollowed closed source entry head tree → AboveTree tree
  tree_above tree kind (first e unleft) = absurd (let no : kinds.Tree ≡ kinds.Commit = sym kind ∙ ap (λ (r : Reference). r.kind) e in cc)
  tree_above tree kind (next {high = high} f names unleft) = by names.object names.is names.is_kind names.names (λ is. tree_above high is f)
    where
      by : (object : Object) → object_at source high.name ≡ Some object → kind_of object ≡ high.kind → Names object tree.name tree.kind → ((high.kind ≡ kinds.Tree) → AboveTree high) → AboveTree tree
      by (objects.Blob b) is k n up = absurd n
      by (objects.Tree t) is k n up =
          let above = up (sym k) in
          record {
            commit = above.commit;
            followed = above.followed;
            top = above.top;
            is_tree = above.is_tree;
            names = above.names;
            path = above.path ++ tree ∷ [];
            leads = Leads-then source above.top above.path high (tree ∷ []) tree above.leads (names, refl);
            trees = All-append (λ (one : Reference). one.kind ≡ kinds.Tree) above.path (tree ∷ []) above.trees
                (All-cons (λ (one : Reference). one.kind ≡ kinds.Tree) tree [] kind (All-nil (λ (one : Reference). one.kind ≡ kinds.Tree)));
          }
      by (objects.Commit c) is k n up =
          let same : high ≡ commit_named high.name = let kind : high.kind ≡ kinds.Commit = sym k in grind (arith, kind) in
          record {
            commit = high.name;
            followed = subst (IsFollowed closed source entry head) same f;
            top = tree;
            is_tree = kind;
            names = subst (λ (r : Reference). NamesNext source r tree) same names;
            path = [];
            leads = refl;
            trees = All-nil (λ (one : Reference). one.kind ≡ kinds.Tree);
          }

  pub deep_cause : (need : Need) (height : ℕ) → need.kind ≡ kinds.Tree → IsFollowed closed source entry head (ref_of need) → HasTrees source need height → MOST_TREES < height
      → CauseHolds closed source entry head (fault.TooLarge (MOST_TREES + 1))
  deep_cause need height kind followed t many =
      let above = tree_above (ref_of need) kind followed in
      let long = t.long in
      inr (inr (inr (
        refl,
        record {
          commit = above.commit;
          followed = above.followed;
          tree = above.top;
          is_tree = above.is_tree;
          names = above.names;
          path = above.path ++ t.path;
          last = t.last;
          leads = Leads-then source above.top above.path (ref_of need) t.path t.last above.leads t.leads;
          trees = All-append (λ (one : Reference). one.kind ≡ kinds.Tree) above.path t.path above.trees t.trees;
          deep = omega (arith, many, long, length-append above.path t.path);
        },
      )))

  -- ---- rings

  -- a blob names nothing
  blob_names : (object : Object) → kind_of object ≡ kinds.Blob → (two : Reference) → Names object two.name two.kind → ⊥
  blob_names (objects.Blob b) k two n = n
  blob_names (objects.Tree t) k two n = cc (k)
  blob_names (objects.Commit c) k two n = cc (k)

  -- what leads from a tree to a tree are trees
  tree_path : (from : Reference) (path : List Reference) (to : Reference) → from.kind ≡ kinds.Tree → to.kind ≡ kinds.Tree → Leads source from path to → All (λ (one : Reference). one.kind ≡ kinds.Tree) path
  tree_path from [] to tree last leads = All-nil (λ (one : Reference). one.kind ≡ kinds.Tree)
  tree_path from (one ∷ path) to tree last (names, leads) =
      let is = next_tree one path leads (entry_kind names.object names.is_kind names.names) in
      All-cons (λ (one : Reference). one.kind ≡ kinds.Tree) one path is (tree_path one path to is last leads)
    where
      -- an entry of a tree is a tree or a blob
      entry_kind : (object : Object) → kind_of object ≡ from.kind → Names object one.name one.kind → (one.kind ≡ kinds.Tree) ⊎ (one.kind ≡ kinds.Blob)
      entry_kind (objects.Blob b) k n = absurd n
      entry_kind (objects.Commit c) k n = absurd (let no : kinds.Commit ≡ kinds.Tree = k ∙ tree in cc)
      entry_kind (objects.Tree t) k (entry, member, named, is_mode) = by_mode entry.mode is_mode
        where
          by_mode : (m : Mode) → kind_named m ≡ Some one.kind → (one.kind ≡ kinds.Tree) ⊎ (one.kind ≡ kinds.Blob)
          by_mode mode.Plain e = inr (sym (same_Some kinds.Blob one.kind e))
          by_mode mode.Exec e = inr (sym (same_Some kinds.Blob one.kind e))
          by_mode mode.Link e = inr (sym (same_Some kinds.Blob one.kind e))
          by_mode mode.Folder e = inl (sym (same_Some kinds.Tree one.kind e))
          by_mode mode.Module e = absurd (cc)

      -- a blob names nothing
      next_tree : (one : Reference) (path : List Reference) → Leads source one path to → (one.kind ≡ kinds.Tree) ⊎ (one.kind ≡ kinds.Blob) → one.kind ≡ kinds.Tree
      next_tree one path leads (inl is) = is
      next_tree one path leads (inr is) = last_tree one path leads is
        where
          last_tree : (one : Reference) (path : List Reference) → Leads source one path to → one.kind ≡ kinds.Blob → one.kind ≡ kinds.Tree
          last_tree one [] leads is = ap (λ (r : Reference). r.kind) leads ∙ last
          last_tree one (two ∷ path) (names, leads) is = absurd (blob_names names.object (names.is_kind ∙ is) two names.names)

  repeated_leads : (n : ℕ) (one : Reference) (path : List Reference) → Leads source one path one → All (λ (r : Reference). r.kind ≡ kinds.Tree) path → 1 ≤ length path
      → (long : List Reference) × Leads source one long one × All (λ (r : Reference). r.kind ≡ kinds.Tree) long × (n ≤ length long)
  repeated_leads zero one path leads trees some = ([], refl, All-nil (λ (r : Reference). r.kind ≡ kinds.Tree), omega arith)
  repeated_leads (suc n) one path leads trees some =
      let rest = repeated_leads n one path leads trees some in
      let far = rest.3 in (
        path ++ rest.0,
        Leads-then source one path one rest.0 one leads rest.1,
        All-append (λ (r : Reference). r.kind ≡ kinds.Tree) path rest.0 trees rest.2,
        omega (arith, far, some, length-append path rest.0),
      )

  -- a tree that leads to itself
  ring_trees : (need : Need) → need.kind ≡ kinds.Tree → LeadsOn closed source entry (ref_of need) (ref_of need) → (height : ℕ) × HasTrees source need height × (MOST_TREES < height)
  ring_trees need tree l =
      let path = l.next ∷ l.path in
      let leads : Leads source (ref_of need) path (ref_of need) = (l.names, l.leads) in
      let long = repeated_leads 17 (ref_of need) path leads (tree_path (ref_of need) path (ref_of need) tree tree leads) (omega arith) in
      let far = long.3 in
      (length long.0, record { path = long.0; last = ref_of need; leads = long.1; trees = long.2; long = refl }, omega (arith, far))

  -- what is named while it is open lies below itself
  pub ring_cause : (kind : Kind) (need : Need) → need.kind ≡ kind → IsFollowed closed source entry head (ref_of need) → LeadsOn closed source entry (ref_of need) (ref_of need) → CauseHolds closed source entry head (ring_fault need)
  ring_cause kinds.Commit need kind followed l =
      let is : ring_fault need ≡ fault.Ring need.name = rw kind in
      subst (CauseHolds closed source entry head) (sym is) (record { one = ref_of need; is_named = refl; followed = followed; is = (kind, l) })
  ring_cause kinds.Tree need kind followed l =
      let is : ring_fault need ≡ fault.TooLarge (MOST_TREES + 1) = rw kind in
      let t = ring_trees need kind l in
      subst (CauseHolds closed source entry head) (sym is) (deep_cause need t.0 kind followed t.1 t.2)
  ring_cause kinds.Blob need kind followed l = absurd (blob_names l.names.object (l.names.is_kind ∙ kind) l.next l.names.names)
