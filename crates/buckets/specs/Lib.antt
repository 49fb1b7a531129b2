pub mod Firsts
pub mod Bucket
pub mod BucketLaws
pub mod BucketRules
pub mod BucketWrites
pub mod PageMaps
pub mod Pools
