pub mod BucketRooms
pub mod BucketViews
pub mod BucketWalk
pub mod BucketChecks
pub mod BucketPushes
pub mod BucketFinds
pub mod PageBits
pub mod OfPools
