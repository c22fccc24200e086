-- The first fault of points and faces, where the points are few: where they are in the box, and where the faces are too many.
use Rattle.std.proofs.Common.{◌≡◌, ◌≤◌, ◌<◌, ℕ, Bool, cond, List, length, map, Option, Some, None, unwrap_or, Result, IfErr, refl, sym, ap, ◌∙◌, subst}
use Rattle.std.specs.Option.{option_or}
use Rattle.std.proofs.lemmas.Bool.{le-ltb, lt-ltb}
use Rattle.std.proofs.lemmas.List.{length-map}
use Rattle.grid_base.specs.declared.TheConstants.{VERTICES_MAX, FACES_MAX}
use Rattle.grid_base.specs.declared.Point.{Point}
use Rattle.mesh_base.specs.declared.limits.Scale.TheVariants.{Large}
use Rattle.mesh_base.specs.Given.{Faces}
use Rattle.mesh_base.specs.declared.ShapeFault.TheVariants.{TooManyVertices, TooManyFaces}
use Rattle.mesh_shape.specs.Shape.{shape_fault}
use Rattle.track_held.specs.declared.given.GivenPoint.{GivenPoint}
use Rattle.track_held.specs.declared.given.GivenFace.{GivenFace}
use Rattle.track_held.specs.declared.new_tracker.MakeFault.{MakeFault}
use Rattle.track_held.specs.declared.new_tracker.MakeFault.TheVariants.{Shape}
use Rattle.track_held.specs.declared.new_tracker.MakeRefusal.{MakeRefusal}
use Rattle.track_held.specs.Given.{point_in, face_in, crowd_fault, box_fault, too_many_faces, lists_fault, make_fault, IsRefusal}

module _ (points : List GivenPoint) (faces : List GivenFace) (few : length points ≤ VERTICES_MAX) (none : box_fault points ≡ None) (ps : List Point) (fs : Faces) (of_points : ps ≡ map point_in points) (of_faces : fs ≡ map face_in faces) where
  not_crowded : crowd_fault points ≡ None
  not_crowded = ap (λ (b : Bool). cond b (Some (Shape (TooManyVertices (length points)))) None) (le-ltb VERTICES_MAX (length points) few)

  pub of_lists : make_fault points faces ≡ lists_fault ps fs
  of_lists =
      ap (λ (o : Option MakeFault). option_or o (option_or (box_fault points) (lists_fault (map point_in points) (map face_in faces)))) not_crowded
      ∙ ap (λ (o : Option MakeFault). option_or o (lists_fault (map point_in points) (map face_in faces))) none
      ∙ ap (λ (l : List Point). lists_fault l (map face_in faces)) (sym of_points)
      ∙ ap (λ (l : Faces). lists_fault ps l) (sym of_faces)

  pub refused_so : {T : Type 0} (r : Result T MakeRefusal) → IfErr r (IsRefusal (lists_fault ps fs)) → IfErr r (IsRefusal (make_fault points faces))
  refused_so r h = let P : Option MakeFault → Type 0 = λ o. IfErr r (IsRefusal o) in subst P (sym of_lists) h

-- few vertices and too many faces have the fault of these
shape_of_many : (n : ℕ) (fs : Faces) → n ≤ VERTICES_MAX → FACES_MAX < length fs → shape_fault Large n fs ≡ Some (TooManyFaces (length fs))
shape_of_many n fs few many = rw (le-ltb VERTICES_MAX n few, lt-ltb FACES_MAX (length fs) many)

module _ (points : List GivenPoint) (faces : List GivenFace) (few : length points ≤ VERTICES_MAX) (many : FACES_MAX < length faces) where
  lists_of_many : lists_fault (map point_in points) (map face_in faces) ≡ Some (too_many_faces (length faces))
  lists_of_many =
      let is_few : length (map point_in points) ≤ VERTICES_MAX = rw (length-map points point_in) few in
      let is_many : FACES_MAX < length (map face_in faces) = rw (length-map faces face_in) many in
      rw (shape_of_many (length (map point_in points)) (map face_in faces) is_few is_many, length-map faces face_in)

  box_or_many : (fault : Option MakeFault) → option_or fault (lists_fault (map point_in points) (map face_in faces)) ≡ Some (unwrap_or fault (too_many_faces (length faces)))
  box_or_many None = lists_of_many
  box_or_many (Some why) = refl

  pub of_crowd : make_fault points faces ≡ Some (unwrap_or (box_fault points) (too_many_faces (length faces)))
  of_crowd =
      ap (λ (b : Bool). option_or (cond b (Some (Shape (TooManyVertices (length points)))) None) (option_or (box_fault points) (lists_fault (map point_in points) (map face_in faces)))) (le-ltb VERTICES_MAX (length points) few)
      ∙ box_or_many (box_fault points)
