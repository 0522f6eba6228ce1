use Rattle.std.proofs.Common.{◌≡◌, ◌∙◌, ◌+◌, ℕ, List, Option, Some, length, sym, subst}
use Rattle.std.specs.Prelude.{IfSome}
use Rattle.std.specs.Global.{Vec}
use Rattle.cops_node.specs.Book.{ABook}
use Rattle.cops_node.specs.declared.entry.Entry.{Entry}
use Rattle.cops_cluster.specs.declared.share.Made.{Made}
use Rattle.cops_cluster.specs.declared.share.Share.{Share}
use Rattle.cops_cluster.specs.Close.{AllReplay, made_by, made_in, reported}
use Rattle.cops_cluster.specs.Differences.{IsLeastDifference}
use Rattle.cops_cluster.specs.HandedBack.{HandsBack}
use Rattle.cops_cluster.specs.declared.closing.CloseFault.TheVariants.{NotKept}
use Rattle.cops_cluster.proofs.cluster.Cluster.ended_in.Goals as goal

pub returns-in-Ok-clause-replays : goal.returns-in-Ok-clause-replays
returns-in-Ok-clause-replays c =
    let is : c.from-places.result ≡ length c.args.self.place.splits + 1 = c.from-places.ensures ∙ c.nodes.ensures.count in
    subst (λ (p : ℕ). AllReplay p c.listed-books.result.items) is c.listed-books.ensures.replays

-- the least difference of the books is that of their lists
least_of_lists : (p q : ℕ) (lists : List (Vec Entry)) (books all : List ABook) (shares callers : List Share) (o : Option ℕ) (t : ℕ) → p ≡ q → books ≡ all → shares ≡ callers → o ≡ Some t
    → made_in p 0 lists ≡ made_by p 0 all → IfSome o (IsLeastDifference (made_by p 0 books) (reported shares)) → IsLeastDifference (made_in q 0 lists) (reported callers) t
least_of_lists p q lists books all shares callers o t places same reported_same some made least =
    let a : IsLeastDifference (made_by p 0 books) (reported shares) t = subst (λ (x : Option ℕ). IfSome x (IsLeastDifference (made_by p 0 books) (reported shares))) some least in
    let b : IsLeastDifference (made_by p 0 all) (reported callers) t =
    subst (λ (bs : List ABook). IsLeastDifference (made_by p 0 bs) (reported callers) t) same (subst (λ (ss : List Share). IsLeastDifference (made_by p 0 books) (reported ss) t) reported_same a) in
    subst (λ (k : ℕ). IsLeastDifference (made_in k 0 lists) (reported callers) t) places (subst (λ (ms : List Made). IsLeastDifference ms (reported callers) t) (sym made) b)

pub returns-in-Ok-Some-clause-back : goal.returns-in-Ok-Some-clause-back
returns-in-Ok-Some-clause-back c =
    let is : c.from-places.result ≡ length c.args.self.place.splits + 1 = c.from-places.ensures ∙ c.nodes.ensures.count in
    let back : HandsBack c.args.self c.args.shares (NotKept c.in-Ok-Some.ticket) = (
      c.requires.all,
      record {
        books = c.listed.result.items;
        len = sym c.listed.result.ok.0 ∙ (c.listed.ensures.len ∙ (c.taken_out-books.ensures ∙ c.args.self.sized));
        replays = subst (λ (p : ℕ). AllReplay p c.listed.result.items) is c.listed.ensures.replays;
        least = least_of_lists _ _ c.listed.result.items _ _ _ _ _ c.in-Ok-Some.ticket is c.deref.ensures.value c.deref-2.ensures.value c.in-Ok-Some.field-0-is c.listed.ensures.made c.in-Ok-Some.ensures.some;
      },
    ) in
    subst (HandsBack c.args.self c.args.shares) (sym c.not_kept.ensures) back
